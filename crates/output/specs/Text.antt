-- What the page holds after something was put on it.
use Rattle.std.specs.Prelude.{ℕ, ◌≡◌, true, cond, List, [], ◌∷◌, ◌++◌, length, eqb}
use Rattle.output.specs.declared.page.Page.{Page}

-- behind what is there; a full page is written out first, and begins anew
abbrev pub with_byte : List ℕ → ℕ → List ℕ
with_byte text b = cond (eqb (length text) 8192) (b ∷ []) (text ++ b ∷ [])

unfoldable pub with_bytes : List ℕ → List ℕ → List ℕ
with_bytes text [] = text
with_bytes text (b ∷ bs) = with_bytes (with_byte text b) bs

-- every byte goes onto the page, and a page that is torn stays torn
abbrev pub Goes : Page → List ℕ → Page → Type 0
Goes old bytes new = (new.text.items ≡ with_bytes old.text.items bytes) × (old.torn ≡ true → new.torn ≡ true)
