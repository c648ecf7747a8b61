-- The theorems on the join: it is associative, the identity is neutral, and three copies are two. Each follows from what a join
-- does and from the uniqueness of records. Assumes nothing.
use Rattle.std.specs.Prelude.{ℕ, ◌≤◌, ◌≡◌, refl, ◌↔◌, Bool, true, false, cond}
use Rattle.std.proofs.Common.{sym, ap, ◌∙◌}
use Rattle.std.proofs.Math.Path.{fun_ext}
use Rattle.std.proofs.Math.Option.{Option, none, some, bind}
use Rattle.moves.specs.declared.Marking.{Marking}
use Rattle.moves.specs.Inside.{Inside}
use Rattle.records.specs.declared.Record.{Record}
use Rattle.records.specs.Records.{applies, gives, acts, well_formed, join, identity}
use Rattle.records.specs.Laws.{acts_join, acts_identity, gives_again}
use Rattle.records.specs.WellFormed.{WellFormed, well_formed_lem, of_well_formed, join_well_formed, identity_well_formed}
use Rattle.spelling.specs.Bytes.{record_bytes}
use Rattle.spelling.specs.Spelling.{bytes_same, bounded_64}
use Rattle.exact.specs.Unique.{Alike, unique}

-- ---- equal exactly if alike

-- two well-formed records are equal exactly if they act alike at every marking
pub equal_exactly : (n : ℕ) (a b : Record) → well_formed n a ≡ true → well_formed n b ≡ true → (a ≡ b) ↔ Alike n a b
equal_exactly n a b p q = (λ e m h. ap (λ (r : Record). acts r m) e, unique n a b (well_formed_lem n a p) (well_formed_lem n b q))

-- ---- what is done in turn

pub then_none : (o : Option Marking) → bind o some ≡ o
unfolding bind
then_none none = refl
then_none (some x) = refl

pub then_again : (o : Option Marking) (j k : Marking → Option Marking) → bind (bind o j) k ≡ bind o (λ x. bind (j x) k)
unfolding bind
then_again none j k = refl
then_again (some x) j k = refl

pub then_same : (o : Option Marking) (j k : Marking → Option Marking) → ((x : Marking) → j x ≡ k x) → bind o j ≡ bind o k
then_same o j k e = ap (bind o) (fun_ext e)

-- ---- the join

pub join_keeps : (n : ℕ) (a b : Record) → well_formed n a ≡ true → well_formed n b ≡ true → well_formed n (join a b) ≡ true
join_keeps n a b p q = of_well_formed n (join a b) (join_well_formed n a b (well_formed_lem n a p) (well_formed_lem n b q))

pub join_assoc : (n : ℕ) (a b c : Record) → WellFormed n a → WellFormed n b → WellFormed n c → join (join a b) c ≡ join a (join b c)
join_assoc n a b c p q r =
    unique n (join (join a b) c) (join a (join b c)) (join_well_formed n (join a b) c (join_well_formed n a b p q) r)
    (join_well_formed n a (join b c) p (join_well_formed n b c q r))
    (λ m h. acts_join (join a b) c m
    ∙ ap (λ (o : Option Marking). bind o (acts c)) (acts_join a b m)
    ∙ then_again (acts a m) (acts b) (acts c)
    ∙ then_same (acts a m) (λ x. bind (acts b x) (acts c)) (acts (join b c)) (λ x. sym (acts_join b c x))
    ∙ sym (acts_join a (join b c) m))

pub join_identity_left : (n : ℕ) (r : Record) → WellFormed n r → join identity r ≡ r
unfolding bind
join_identity_left n r w =
    unique n (join identity r) r (join_well_formed n identity r (identity_well_formed n) w) w
    (λ m h. acts_join identity r m ∙ ap (λ (o : Option Marking). bind o (acts r)) (acts_identity m))

pub join_identity_right : (n : ℕ) (r : Record) → WellFormed n r → join r identity ≡ r
join_identity_right n r w =
    unique n (join r identity) r (join_well_formed n r identity w (identity_well_formed n)) w
    (λ m h. acts_join r identity m ∙ then_same (acts r m) (acts identity) some acts_identity ∙ then_none (acts r m))

-- what a record does, done three times, is what it does twice
thrice : (r : Record) (m : Marking) → bind (acts r m) (λ x. bind (acts r x) (acts r)) ≡ bind (acts r m) (acts r)
unfolding acts bind
thrice r m = go (applies r m) (applies r (gives r m)) refl
  where
    go : (p q : Bool) → applies r (gives r m) ≡ q
        → bind (cond p (some (gives r m)) none) (λ x. bind (cond (applies r x) (some (gives r x)) none) (acts r))
        ≡ bind (cond p (some (gives r m)) none) (acts r)
    go false q e = refl
    go true true e = simp (e, gives_again r m)
    go true false e = simp e

-- three copies joined are two copies joined
pub three_two : (n : ℕ) (r : Record) → WellFormed n r → join r (join r r) ≡ join r r
three_two n r w =
    let two : WellFormed n (join r r) = join_well_formed n r r w w in
    unique n (join r (join r r)) (join r r) (join_well_formed n r (join r r) w two) two
    (λ m h. acts_join r (join r r) m
    ∙ then_same (acts r m) (acts (join r r)) (λ x. bind (acts r x) (acts r)) (acts_join r r)
    ∙ thrice r m
    ∙ sym (acts_join r r m))

-- two well-formed records have equal bytes exactly if they act alike at every marking
pub bytes_exactly : (n : ℕ) (a b : Record) → n ≤ 64 → well_formed n a ≡ true → well_formed n b ≡ true → (record_bytes a ≡ record_bytes b)
    ↔ Alike n a b
bytes_exactly n a b h p q = (
  λ e. (equal_exactly n a b p q).0
      (bytes_same a b (bounded_64 n a h (well_formed_lem n a p).bounded) (bounded_64 n b h (well_formed_lem n b q).bounded) e),
  λ l. ap record_bytes ((equal_exactly n a b p q).1 l),
)

-- ---- the join is the one record that does first the one and then the other

-- r does what a does, and then what b does, at every marking of n steps
abbrev pub Then : ℕ → Record → Record → Record → Type 0
Then n a b r = (m : Marking) → Inside n m → acts r m ≡ bind (acts a m) (acts b)

pub join_exactly : (n : ℕ) (a b r : Record) → well_formed n a ≡ true → well_formed n b ≡ true → (r ≡ join a b)
    ↔ ((well_formed n r ≡ true) × Then n a b r)
join_exactly n a b r p q = (
  λ e. (ap (well_formed n) e ∙ join_keeps n a b p q, λ m h. ap (λ (x : Record). acts x m) e ∙ acts_join a b m),
  λ t. unique n r (join a b) (well_formed_lem n r t.0) (well_formed_lem n (join a b) (join_keeps n a b p q))
      (λ m h. t.1 m h ∙ sym (acts_join a b m)),
)
