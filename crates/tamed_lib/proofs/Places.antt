-- The row of a member of a class is a row of that class, and the member of a number runs as its row says.
use Rattle.std.proofs.Common.{◌≡◌, ◌≤◌, ◌-◌, ◌∙◌, ℕ, zero, suc, List, [], ◌∷◌, map, Bool, true, false, Option, Some, None, refl, sym, ap, arith, true≢false}
use Rattle.std.specs.Prelude.{option_map, slice_get, unwrap_or, if◌then◌else◌, is_none, ◌&&◌}
use Rattle.std.specs.Str.{bytes_eq}
use Rattle.std.proofs.lemmas.Option.{slice_get-map}
use Rattle.std.proofs.lemmas.Bool.{and_parts}
use Rattle.std.proofs.lemmas.Slice.Eq.{bytes_eq-Decides}
use Rattle.je_core.specs.declared.types.ClassId.{ClassId}
use Rattle.je_core.specs.declared.value.Value.{Value}
use Rattle.je_core.specs.Core.{CoreProgram}
use Rattle.je_table.specs.declared.classes.LibraryClass.{LibraryClass}
use Rattle.je_table.specs.declared.classes.LibraryClass.TheVariants as class
use Rattle.je_table.specs.declared.members.CostKind.{CostKind}
use Rattle.je_table.specs.declared.members.MemberRow.{MemberRow}
use Rattle.je_table.specs.Library.{Member, all_classes, class_number, class_row, classes, library, signature_of}
use Rattle.je_table.specs.Rows.{Row, row_of, row_said}
use Rattle.je_java.specs.LibraryMembers.{member_row, row_at, run_library}
use Rattle.je_java.specs.Steps.{Exits, Run, State, bind, need, on_some, wrong}
use Rattle.library_places.specs.Places.{is_row_of, library_place, place_from, place_in, same_sort}
use Rattle.tamed_lib.specs.Paying.{run_row}

-- ---- the row that is found passes

abbrev passes : (Row → Bool) → Option Row → Bool
passes test None = false
passes test (Some row) = test row

abbrev Finds : (Row → Bool) → ℕ → List Row → Option ℕ → Type 0
Finds test n rows found = (place : ℕ) → found ≡ Some place → (n ≤ place) × (passes test (slice_get rows (place - n)) ≡ true)

later : (test : Row → Bool) (n : ℕ) (row : Row) (rows : List Row) (found : Option ℕ) → Finds test (suc n) rows found → Finds test n (row ∷ rows) found
later test n row rows found finds place e =
    let f = finds place e in
    let k : place - n ≡ suc (place - suc n) = omega (arith, f.0) in
    (omega (arith, f.0), ap (λ i. passes test (slice_get (row ∷ rows) i)) k ∙ f.1)

here : (test : Row → Bool) (n : ℕ) (row : Row) (rows : List Row) → test row ≡ true → Finds test n (row ∷ rows) (Some n)
here test n row rows t place e =
    let same : n ≡ place = ap (λ o. unwrap_or o 0) e in
    let k : place - n ≡ 0 = omega (arith, same) in
    (omega (arith, same), ap (λ i. passes test (slice_get (row ∷ rows) i)) k ∙ t)

either : (test : Row → Bool) (n : ℕ) (row : Row) (rows : List Row) (b : Bool) (one other : Option ℕ) → test row ≡ b → (test row ≡ true → Finds test n (row ∷ rows) one) → Finds test n (row ∷ rows) other →
    Finds test n (row ∷ rows) (if b then one else other)
either test n row rows true one other t f g = f t
either test n row rows false one other t f g = g

pub found : (test : Row → Bool) (n : ℕ) (rows : List Row) (before : ℕ) → Finds test n rows (place_from test n rows before)
found test n [] before = λ place e. absurd (true≢false (ap is_none e))
found test n (row ∷ rows) zero =
    either test n row rows (test row) (Some n) (place_from test (suc n) rows zero) refl (here test n row rows)
    (later test n row rows (place_from test (suc n) rows zero) (found test (suc n) rows zero))
found test n (row ∷ rows) (suc before) =
    either test n row rows (test row) (place_from test (suc n) rows before) (place_from test (suc n) rows (suc before)) refl
    (λ t. later test n row rows (place_from test (suc n) rows before) (found test (suc n) rows before))
    (later test n row rows (place_from test (suc n) rows (suc before)) (found test (suc n) rows (suc before)))

-- ---- each class has its own name

abbrev number_of : List ℕ → ℕ
number_of name = unwrap_or (class_number name) 0

numbered : (c : LibraryClass) → slice_get all_classes (number_of (class_row c).name) ≡ Some c
numbered class.Object = refl
numbered class.String = refl
numbered class.StringBuilder = refl
numbered class.Integer = refl
numbered class.Long = refl
numbered class.Math = refl
numbered class.System = refl
numbered class.Comparable = refl
numbered class.Runnable = refl
numbered class.Throwable = refl
numbered class.Immutable = refl
numbered class.Selfless = refl
numbered class.Equatable = refl
numbered class.Powerless = refl
numbered class.Token = refl
numbered class.ConstRow = refl
numbered class.IntRow = refl
numbered class.TextRow = refl
numbered class.Console = refl
numbered class.Cell = refl
numbered class.Clock = refl
numbered class.Inbox = refl
numbered class.Store = refl
numbered class.Refused = refl
numbered class.Exception = refl
numbered class.Error = refl
numbered class.RuntimeException = refl
numbered class.ArithmeticException = refl
numbered class.ArrayStoreException = refl
numbered class.ClassCastException = refl
numbered class.IllegalArgumentException = refl
numbered class.IllegalStateException = refl
numbered class.IndexOutOfBoundsException = refl
numbered class.NegativeArraySizeException = refl
numbered class.NullPointerException = refl
numbered class.UnsupportedOperationException = refl
numbered class.ArrayIndexOutOfBoundsException = refl
numbered class.StringIndexOutOfBoundsException = refl
numbered class.NumberFormatException = refl

same_class : (a b : LibraryClass) → (class_row a).name ≡ (class_row b).name → a ≡ b
same_class a b e = ap (λ o. unwrap_or o a) (sym (numbered a) ∙ ap (λ name. slice_get all_classes (number_of name)) e ∙ numbered b)

-- ---- the row of a member of a class is one of that class

first_true : (x y : Bool) → (x && y) ≡ true → x ≡ true
first_true x y e = (and_parts x y e).0

row_passes : (ms : List Member) (m : Member) (place : ℕ) (test : Row → Bool) → slice_get ms place ≡ Some m → passes test (slice_get (map row_of ms) (place - 0)) ≡ true → test (row_of m) ≡ true
row_passes ms m place test there p =
    let k : place ≡ place - 0 = omega arith in
    let got : slice_get (map row_of ms) place ≡ Some (row_of m) = slice_get-map row_of ms place ∙ ap (option_map row_of) there in
    sym (ap (passes test) (ap (slice_get (map row_of ms)) (sym k) ∙ got)) ∙ p

named_alike : (ms : List Member) (cs : List LibraryClass) (own at place : ℕ) (m : Member) (c : LibraryClass) →
    place_in (map row_of ms) false at (slice_get (map class_row cs) own) ≡ Some place → slice_get ms place ≡ Some m → slice_get cs own ≡ Some c →
    (class_row m.class).name ≡ (class_row c).name
named_alike ms cs own at place m c e there is =
    let test = is_row_of (class_row c).name false in
    let row : slice_get (map class_row cs) own ≡ Some (class_row c) = slice_get-map class_row cs own ∙ ap (option_map class_row) is in
    let from : place_from test 0 (map row_of ms) at ≡ Some place = sym (ap (place_in (map row_of ms) false at) row) ∙ e in
    let p = (found test 0 (map row_of ms) at place from).1 in
    let t : test (row_of m) ≡ true = row_passes ms m place test there p in
    (bytes_eq-Decides (class_row m.class).name (class_row c).name).0
    (first_true (bytes_eq (class_row m.class).name (class_row c).name) (same_sort false (is_none m.parameters)) t)

abbrev HasRow : ClassId → ℕ → Option ℕ → Type 0
HasRow own at place = (m : Member) (c : LibraryClass) → row_at place ≡ Some m → slice_get all_classes own.0 ≡ Some c → m.class ≡ c

has_row : (own : ClassId) (at : ℕ) (place : Option ℕ) → library_place own false at ≡ place → HasRow own at place
unfolding library_place
has_row own at None e m c there is = absurd (true≢false (ap is_none there))
has_row own at (Some place) e m c there is = same_class m.class c (named_alike library all_classes own.0 at place m c e there is)

-- ---- the member of a number runs as its row says

module _ (program : CoreProgram) (own : ClassId) (at : ℕ) (this : Value) (given : List Value) (go : Value → Run) (exits : Exits) (s : State) where
  pub runs : (cost : CostKind) (signature : List ℕ) (class : LibraryClass) (m : Member) → member_row own at ≡ Some m → slice_get all_classes own.0 ≡ Some class →
      cost ≡ m.cost → signature ≡ signature_of m →
      run_row class cost program own signature this given go exits s ≡ run_library program own at this given go exits s
  unfolding run_library bind need
  runs cost signature class m row is c e =
      let same : class ≡ m.class = sym (has_row own at (library_place own false at) refl m class row is) in
      ap (λ k. run_row k cost program own signature this given go exits s) same
      ∙ ap (λ k. run_row m.class k program own signature this given go exits s) c
      ∙ ap (λ k. run_row m.class m.cost program own k this given go exits s) e
      ∙ sym (ap (λ o. on_some o (λ (row : Member). run_row row.class row.cost program own (signature_of row) this given go exits s)) row)

  pub runs_none : member_row own at ≡ None → wrong go exits s ≡ run_library program own at this given go exits s
  unfolding run_library bind need wrong
  runs_none e = sym (ap (λ o. on_some o (λ (row : Member). run_row row.class row.cost program own (signature_of row) this given go exits s)) e)

-- no class, no row
pub no_class : (own : ClassId) (at : ℕ) → slice_get all_classes own.0 ≡ None → member_row own at ≡ None
unfolding library_place
no_class own at e =
    let none : slice_get classes own.0 ≡ None = slice_get-map class_row all_classes own.0 ∙ ap (option_map class_row) e in
    ap (λ o. row_at (place_in (map row_of library) false at o)) none

-- ---- the same of rows in memory

pub row_there : (rows : List MemberRow) (row : MemberRow) (place : ℕ) → map row_said rows ≡ map row_of library → slice_get rows place ≡ Some row →
    Some (row_said row) ≡ option_map row_of (slice_get library place)
row_there rows row place e h =
    sym (ap (option_map row_said) h) ∙ sym (slice_get-map row_said rows place) ∙ ap (λ rs. slice_get rs place) e ∙ slice_get-map row_of library place

pub row_lacks : (rows : List MemberRow) (place : ℕ) → map row_said rows ≡ map row_of library → slice_get rows place ≡ None →
    None ≡ option_map row_of (slice_get library place)
row_lacks rows place e h =
    sym (ap (option_map row_said) h) ∙ sym (slice_get-map row_said rows place) ∙ ap (λ rs. slice_get rs place) e ∙ slice_get-map row_of library place

module _ (program : CoreProgram) (own : ClassId) (at : ℕ) (this : Value) (given : List Value) (go : Value → Run) (exits : Exits) (s : State) where
  none_said : (o : Option Member) → None ≡ option_map row_of o → o ≡ None
  none_said None e = refl
  none_said (Some m) e = absurd (true≢false (ap is_none e))

  ran_by : (row : MemberRow) (class : LibraryClass) (o : Option Member) → member_row own at ≡ o → Some (row_said row) ≡ option_map row_of o → slice_get all_classes own.0 ≡ Some class →
      run_row class row.cost program own row.signature.now this given go exits s ≡ run_library program own at this given go exits s
  ran_by row class None is said there = absurd (true≢false (ap is_none (sym said)))
  ran_by row class (Some m) is said there =
      let same : row_said row ≡ row_of m = ap (λ o. unwrap_or o (row_said row)) said in
      runs program own at this given go exits s row.cost row.signature.now class m is there (ap (λ r. r.cost) same) (ap (λ r. r.signature) same)

  -- as the row says
  pub ran : (row : MemberRow) (class : LibraryClass) → Some (row_said row) ≡ option_map row_of (member_row own at) → slice_get all_classes own.0 ≡ Some class →
      run_row class row.cost program own row.signature.now this given go exits s ≡ run_library program own at this given go exits s
  ran row class said there = ran_by row class (member_row own at) refl said there

  pub ran_without_row : None ≡ option_map row_of (member_row own at) → wrong go exits s ≡ run_library program own at this given go exits s
  ran_without_row e = runs_none program own at this given go exits s (none_said (member_row own at) e)

  pub ran_without_class : slice_get all_classes own.0 ≡ None → wrong go exits s ≡ run_library program own at this given go exits s
  ran_without_class e = runs_none program own at this given go exits s (no_class own at e)
