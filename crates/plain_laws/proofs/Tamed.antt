-- A member that guests may use isn't wild, where a taming text enables tame members alone.
use Rattle.std.proofs.Common.{◌≡◌, ℕ, zero, suc, ◌+◌, List, [], ◌∷◌, map, length, Option, Some, None, option_map, unwrap_or, refl, sym, ap, ◌∙◌, subst, arith}
use Rattle.std.specs.Prelude.{Bool, true, false, cond, not, ◌||◌, filter, slice_get, codes, if◌then◌else◌}
use Rattle.std.specs.List.{list_all, list_any}
use Rattle.std.proofs.lemmas.Bool.{eqb-true, ltb-false}
use Rattle.std.proofs.lemmas.Option.{none-some, same_Some, slice_get-map, slice_get_past}
use Rattle.je_table.specs.Library.{Class, classes, library}
use Rattle.je_table.specs.Library as table
use Rattle.je_table.specs.Rows as said
use Rattle.je_classes.specs.Members.{Member}
use Rattle.je_classes.proofs.Lists.{bool_cases}
use Rattle.je_fitting.specs.Members.{is_guest}
use Rattle.je_fitting.proofs.Booleans.{two, is_false}
use Rattle.library_places.specs.Places.{is_row_of, library_place, place_from, place_in}
use Rattle.library_classes.specs.Library as standing
use Rattle.plain_programs.specs.Wild.{is_wild, is_wild_row, rows_of}
use Rattle.taming_db.specs.Rows.{Row, is_tame, member_place, same_place}
use Rattle.taming_db.specs.Taming.{enables, is_enabled, is_object_constructor}
use Rattle.taming_db.specs.Tame.{enable_tame, enables_tame}
use Rattle.node_rules.specs.Enabled.{is_enabled_if, may_use}
use Rattle.plain_laws.specs.Laws.{TameIsNotWild}

-- ---- what is enabled is tame

-- Object's constructor, which is always enabled
abbrev object_place : ℕ
object_place = unwrap_or (member_place (codes "java.lang.Object") (codes "new()")) 0

object-tame : (member : ℕ) → is_object_constructor member ≡ true → is_tame member ≡ true
unfolding member_place
object-tame member e = let at : object_place ≡ member = eqb-true object_place member e in subst (λ (n : ℕ). is_tame n ≡ true) at refl

in-row : (member : ℕ) (ats : List ℕ) → list_all is_tame ats ≡ true → list_any (λ at. same_place at member) ats ≡ true → is_tame member ≡ true
in-row member [] h e = absurd cc
in-row member (at ∷ ats) h e = bool_cases (λ b. (b || list_any (λ n. same_place n member) ats) ≡ true → is_tame member ≡ true) (same_place at member)
    (λ q _. subst (λ (n : ℕ). is_tame n ≡ true) (eqb-true at member q) (two {a = is_tame at} h).0)
    (λ _ r. in-row member ats (two {a = is_tame at} h).1 r) e

in-rows : (member : ℕ) (rows : List Row) → enable_tame rows ≡ true → list_any (enables member) rows ≡ true → is_tame member ≡ true
in-rows member [] h e = absurd cc
in-rows member (row ∷ rows) h e = bool_cases (λ b. (b || list_any (enables member) rows) ≡ true → is_tame member ≡ true) (enables member row)
    (λ q _. in-row member row.enable (two {a = enables_tame row} h).0 q)
    (λ _ r. in-rows member rows (two {a = enables_tame row} h).1 r) e

enabled-tame : (rows : List Row) → enable_tame rows ≡ true → (member : ℕ) → is_enabled rows member ≡ true → is_tame member ≡ true
enabled-tame rows h member e = bool_cases (λ b. (b || list_any (enables member) rows) ≡ true → is_tame member ≡ true) (is_object_constructor member)
    (λ q _. object-tame member q)
    (λ _ r. in-rows member rows h r) e

-- ---- the row of a member

-- the row at a place that was found, which stands among those that pass where it was counted
record Located (rows passing : List said.Row) (n before at : ℕ) : Type 0 where
  row : said.Row
  behind : ℕ
  place : n + behind ≡ at
  there : slice_get rows behind ≡ Some row
  among : slice_get passing before ≡ Some row

module _ (test : said.Row → Bool) where
  here : (row : said.Row) (rows : List said.Row) (n at : ℕ) (passing : List said.Row) → Some n ≡ Some at → Located (row ∷ rows) (row ∷ passing) n zero at
  here row rows n at passing e = let q : n ≡ at = same_Some n at e in record { row = row; behind = 0; place = omega arith; there = refl; among = refl }

  past : (row : said.Row) (rows passing : List said.Row) (n before at : ℕ) → Located rows passing (suc n) before at → Located (row ∷ rows) passing n before at
  past row rows passing n before at l = let q : suc n + l.behind ≡ at = l.place in record { row = l.row; behind = suc l.behind; place = omega arith; there = l.there; among = l.among }

  counted : (row : said.Row) (rows passing : List said.Row) (n before at : ℕ) → Located rows passing (suc n) before at → Located (row ∷ rows) (row ∷ passing) n (suc before) at
  counted row rows passing n before at l = let q : suc n + l.behind ≡ at = l.place in record { row = l.row; behind = suc l.behind; place = omega arith; there = l.there; among = l.among }

  first : (row : said.Row) (rows : List said.Row) (n at : ℕ) → (place_from test (suc n) rows zero ≡ Some at → Located rows (filter test rows) (suc n) zero at) → (b : Bool)
      → (if b then Some n else place_from test (suc n) rows zero) ≡ Some at → Located (row ∷ rows) (cond b (row ∷ filter test rows) (filter test rows)) n zero at
  first row rows n at next true q = here row rows n at (filter test rows) q
  first row rows n at next false q = past row rows (filter test rows) n zero at (next q)

  later : (row : said.Row) (rows : List said.Row) (n before at : ℕ) → ((k : ℕ) → place_from test (suc n) rows k ≡ Some at → Located rows (filter test rows) (suc n) k at) → (b : Bool)
      → (if b then place_from test (suc n) rows before else place_from test (suc n) rows (suc before)) ≡ Some at → Located (row ∷ rows) (cond b (row ∷ filter test rows) (filter test rows)) n (suc before) at
  later row rows n before at next true q = counted row rows (filter test rows) n before at (next before q)
  later row rows n before at next false q = past row rows (filter test rows) n (suc before) at (next (suc before) q)

  located : (n : ℕ) (rows : List said.Row) (before at : ℕ) → place_from test n rows before ≡ Some at → Located rows (filter test rows) n before at
  located n [] before at e = absurd (none-some at e)
  located n (row ∷ rows) zero at e = first row rows n at (λ q. located (suc n) rows zero at q) (test row) e
  located n (row ∷ rows) (suc before) at e = later row rows n before at (λ k q. located (suc n) rows k at q) (test row) e

-- ---- a member that may be used

abbrev tame_in : Option table.Member → Bool
tame_in o = unwrap_or (option_map (λ (m : table.Member). m.tame) o) false

-- a row at a place is tame where its member is
tame-row : (at : ℕ) (row : said.Row) → slice_get (map said.row_of library) at ≡ Some row → is_tame at ≡ true → row.tame ≡ true
tame-row at row e h = by (slice_get library at) (sym (slice_get-map said.row_of library at) ∙ e) h
  where
    by : (o : Option table.Member) → option_map said.row_of o ≡ Some row → tame_in o ≡ true → row.tame ≡ true
    by None q t = absurd (none-some row q)
    by (Some m) q t = let r : said.row_of m ≡ row = same_Some (said.row_of m) row q in ap (λ (w : said.Row). w.tame) (sym r) ∙ t

not-wild-at : (o : Option Class) (at member : ℕ) → place_in (map said.row_of library) false at o ≡ Some member → is_tame member ≡ true → is_wild_row (slice_get (rows_of o) at) ≡ false
unfolding standing.rows
not-wild-at None at member e h = absurd (none-some member e)
not-wild-at (Some class) at member e h =
    let l = located (is_row_of class.name false) 0 (map said.row_of library) at member e in
    let q : 0 + l.behind ≡ member = l.place in
    let r : l.behind ≡ member = omega (arith, q) in
    let there : slice_get (map said.row_of library) member ≡ Some l.row = subst (λ (k : ℕ). slice_get (map said.row_of library) k ≡ Some l.row) r l.there in
    ap is_wild_row l.among ∙ ap not (tame-row member l.row there h)

may-use-cases : (rows : List Row) → enable_tame rows ≡ true → (m : Member) → is_guest m.class ≡ false → may_use rows false m ≡ true → is_wild m ≡ false
unfolding is_wild library_place
may-use-cases rows h m g e = by (library_place m.class false m.at) refl (ap (λ b. b || is_enabled_if rows (library_place m.class false m.at)) (sym g) ∙ e)
  where
    by : (o : Option ℕ) → place_in (map said.row_of library) false m.at (slice_get classes m.class.0) ≡ o → is_enabled_if rows o ≡ true → is_wild_row (slice_get (rows_of (slice_get classes m.class.0)) m.at) ≡ false
    by None q t = absurd cc
    by (Some member) q t = not-wild-at (slice_get classes m.class.0) m.at member q (enabled-tame rows h member t)

-- a guest's members aren't the library's
guest-not-wild : (m : Member) → is_guest m.class ≡ true → is_wild m ≡ false
unfolding is_wild
guest-not-wild m g = ap (λ (o : Option Class). is_wild_row (slice_get (rows_of o) m.at)) (slice_get_past classes m.class.0 (ltb-false m.class.0 (length classes) (is_false g)))

pub tame_is_not_wild : TameIsNotWild
tame_is_not_wild rows h m e = bool_cases (λ b. is_guest m.class ≡ b → is_wild m ≡ false) (is_guest m.class)
    (λ g _. guest-not-wild m g) (λ g _. may-use-cases rows h m g e) refl
