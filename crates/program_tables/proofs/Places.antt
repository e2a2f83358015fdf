-- The fields for captured locals, by the places of these among those that a class captures.
use Rattle.std.proofs.Common.{◌≡◌, ℕ, zero, suc, ◌+◌, Bool, true, false, not, cond, nat_lt, List, [], ◌∷◌, length, map, Option, Some, None, refl, sym, ap, ◌∙◌, arith, zero-add}
use Rattle.std.specs.Prelude.{◌&&◌, if◌then◌else◌, nat_eq, option_map, slice_get}
use Rattle.std.specs.List.{position, position_or_len}
use Rattle.std.specs.declared.alloc.Global.{Global}
use Rattle.std.specs.declared.vec.Vec.{Vec}
use Rattle.std.proofs.lemmas.Bool.Decides.{nat_tests}
use Rattle.std.proofs.lemmas.Option.{slice_get-map}
use Rattle.je_scopes.specs.Source.{Source}
use Rattle.body_places.specs.Tables.{captured_in, field_from, fields_in}
use Rattle.body_places.specs.declared.tables.Captured.{Captured}
use Rattle.class_typing.specs.Programs as words
use Rattle.class_typing.specs.Programs.{captured_place, classes, is_of, outer_count, place_or, with_hidden}
use Rattle.name_typing.specs.Fields.{fields_of}
use Rattle.core_making.specs.Known.{captured_local_seen, captured_seen}
use Rattle.core_making.specs.declared.known.CapturedLocal.{CapturedLocal}
use Rattle.program_tables.specs.way.Places.{all_places, places_from}

-- ---- the first of which a test holds, one element after the other

module _ (source : Source) {X : Type 0} (p : X → Bool) (past : ℕ) where
  abbrev at-first : ℕ → ℕ → ℕ → ℕ
  at-first k l n = place_or source past (cond (nat_lt k l) (Some k) None) n

  later : (b : Bool) (k l n : ℕ) →
      at-first (cond (not b) (1 + k) 0) (suc l) n ≡ (if b then n else at-first k l (suc n))
  later true k l n =
      let e : nat_lt 0 (suc l) ≡ true = grind (arith, nat_tests) in let f : n + 0 ≡ n = omega arith in rw e f
  later false k l n = by (nat_lt k l) refl
    where
      by : (b : Bool) → nat_lt k l ≡ b →
          at-first (1 + k) (suc l) n ≡ place_or source past (cond b (Some k) None) (suc n)
      by true e =
          let f : nat_lt (1 + k) (suc l) ≡ true = grind (arith, nat_tests) in
          let g : n + (1 + k) ≡ suc n + k = omega arith in rw f g
      by false e = let f : nat_lt (1 + k) (suc l) ≡ false = grind (arith, nat_tests) in rw f refl

  place-later : (x : X) (xs : List X) (n : ℕ) →
      place_or source past (position p (x ∷ xs)) n ≡ (if p x then n else place_or source past (position p xs) (suc n))
  place-later x xs n = later (p x) (position_or_len p xs) (length xs) n

-- ---- of one class, and of all

abbrev or-none : Option (List Captured) → List Captured
or-none None = []
or-none (Some fields) = fields

in-list : (o : Option (Vec Captured Global)) → fields_in o ≡ or-none (option_map (λ fields. fields.items) o)
in-list None = refl
in-list (Some fields) = refl

module _ (source : Source) (past owner local : ℕ) where
  -- where captured ones stand, behind so many fields with an instance
  abbrev place-among : List words.CapturedLocal → ℕ → ℕ
  place-among ls n = place_or source past (position (is_of owner local) ls) n

  of-class : (ls : List CapturedLocal) (n : ℕ) →
      field_from (places_from n ls) past owner local
      ≡ place-among (map captured_local_seen ls) n
  of-class [] n = refl
  of-class (l ∷ ls) n =
      ap (λ (k : ℕ). if nat_eq l.owner.0 owner && nat_eq l.variable.number local then n else k) (of-class ls (suc n))
      ∙ sym (place-later source (is_of owner local) past (captured_local_seen l) (map captured_local_seen ls) n)

  of-classes : (captured : List (Vec CapturedLocal Global)) (n c : ℕ) →
      field_from (or-none (slice_get (all_places source n captured) c)) past owner local
      ≡ place-among (captured_seen captured c) (outer_count source (n + c))
  of-classes [] n c = refl
  of-classes (ls ∷ rest) n zero =
      let e : n ≡ n + 0 = omega arith in
      of-class ls.items (outer_count source n)
      ∙ ap (λ (k : ℕ). place-among (map captured_local_seen ls.items) (outer_count source k)) e
  of-classes (ls ∷ rest) n (suc c) =
      let e : suc n + c ≡ n + suc c = omega arith in
      of-classes rest (suc n) c
      ∙ ap (λ (k : ℕ). place-among (captured_seen rest c) (outer_count source k)) e

module _ (source : Source) (captured : List (Vec CapturedLocal Global)) (fields : List (Vec Captured Global)) where
  abbrev past : ℕ → ℕ
  past c = length (fields_of (with_hidden source (captured_seen captured) 0 (classes source)) c)

  abbrev IsMade : Type 0
  IsMade = map (λ (fs : Vec Captured Global). fs.items) fields ≡ all_places source 0 captured

  one-captured : IsMade → (c owner local : ℕ) →
      captured_in fields (with_hidden source (captured_seen captured) 0 (classes source)) c owner local
      ≡ captured_place source (captured_seen captured) c owner local
  one-captured made c owner local =
      ap (λ (fs : List Captured). field_from fs (past c) owner local)
      (in-list (slice_get fields c)
      ∙ ap or-none (sym (slice_get-map (λ (fs : Vec Captured Global). fs.items) fields c)
      ∙ ap (λ (all : List (List Captured)). slice_get all c) made))
      ∙ of-classes source (past c) owner local captured 0 c
      ∙ ap (λ (k : ℕ). place-among source (past c) owner local (captured_seen captured c) (outer_count source k)) (zero-add c)

  pub all_captured : IsMade →
      captured_in fields (with_hidden source (captured_seen captured) 0 (classes source))
      ≡ captured_place source (captured_seen captured)
  all_captured made = λ i c owner local. one-captured made c owner local i
