-- What a finding says of a layout: nothing, exactly where the reader has nothing against it.
use Rattle.std.specs.Prelude.{ℕ, ◌%◌, ◌<◌, ◌≤◌, ◌≡◌, refl, List, Bool, true, false, ◌&&◌, length, get_or, eqb, leb}
use Rattle.std.proofs.Common.{arith}
use Rattle.std.proofs.lemmas.Bool.{lt-leb}
use Rattle.layout.specs.Layout.{start, size_at, follows}
use Rattle.reading.specs.declared.Form.{Form}
use Rattle.reading.specs.Reading.{form_of, layout_fits}
use Rattle.reading.specs.Laws.{form_formed}

-- body 1 has `counts` bytes, body 2 has 24, and those of body 5 are a multiple of 3
abbrev pub sizes_fit : ℕ → List ℕ → Bool
sizes_fit counts s = eqb (size_at s 0) counts && eqb (size_at s 1) 24 && eqb (size_at s 4 % 3) 0

-- the contents and those sizes are of the form
abbrev pub parts_fit : Form → List ℕ → Bool
parts_fit f s = follows f.bodies 0 (start f.bodies) s && sizes_fit f.counts s

turned : (a b c d e f g : Bool) → (a && b && (c && d) && e && f && g) ≡ (c && a && b && (d && (e && f && g)))
turned true true true true e f g = refl
turned true true true false e f g = refl
turned true true false d e f g = refl
turned true false true d e f g = refl
turned true false false d e f g = refl
turned false b true d e f g = refl
turned false b false d e f g = refl

-- the reader's tests, in the order in which a finding asks
pub laid_out : (s : List ℕ) → layout_fits s
    ≡ (eqb (get_or s 0 0) (form_of s).bodies && leb (form_of s).least (length s) && leb (length s) (form_of s).most && parts_fit (form_of s) s)
unfolding layout_fits
laid_out s =
    turned (leb (form_of s).least (length s)) (leb (length s) (form_of s).most) (eqb (get_or s 0 0) (form_of s).bodies)
    (follows (form_of s).bodies 0 (start (form_of s).bodies) s)
    (eqb (size_at s 0) (form_of s).counts) (eqb (size_at s 1) 24) (eqb (size_at s 4 % 3) 0)

-- of no bytes a sheet is never made
pub none_laid : (s : List ℕ) → length s ≡ 0 → layout_fits s ≡ false
unfolding layout_fits
none_laid s e =
    let long : 29 ≤ (form_of s).least = (form_formed s).long in
    let under : length s < (form_of s).least = omega arith in
    simp (lt-leb (form_of s).least (length s) under)
