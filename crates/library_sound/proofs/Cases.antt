-- What is to be shown of a member of the library, and how a call of one begins: with its cost, and its receiver.
use Rattle.std.proofs.Common.{◌≡◌, ◌+◌, ℕ, zero, suc, List, [], ◌∷◌, Some, Option, option_map, unwrap_or, subst, arith}
use Rattle.std.proofs.lemmas.Option.{same_Some}
use Rattle.std.specs.Prelude.{Bool, true, false, slice_get, codes}
use Rattle.std.specs.List.{list_any}
use Rattle.std.specs.Str.{bytes_eq}
use Rattle.je_base.specs.declared.span.NameId.{NameId}
use Rattle.je_core.specs.declared.object.Obj.{Obj}
use Rattle.je_core.specs.declared.types.ClassId.{ClassId}
use Rattle.je_core.specs.declared.types.Ty.{Ty}
use Rattle.je_core.specs.declared.value.ObjId.{ObjId}
use Rattle.je_core.specs.declared.value.Value.{Value}
use Rattle.je_core.specs.declared.value.Value.TheVariants.{Null, Ref}
use Rattle.je_core.specs.Core.{CoreClass, CoreMethod}
use Rattle.je_table.specs.Library as table
use Rattle.je_classes.specs.Subtypes.{class_type}
use Rattle.je_fitting.specs.Types.{void}
use Rattle.je_java.specs.LibraryMembers.{has_own_makers, member_of_class, member_row, pay, run_library}
use Rattle.je_java.specs.Steps.{Computation, Nothing, bind, deref, get_units, seq}
use Rattle.je_sound.specs.Values.{ValueFits}
use Rattle.class_names.specs.Words.{library_words}
use Rattle.plain_programs.specs.Wild.{is_wild}
use Rattle.eval_sound.specs.Premises.{MakerIsSafe, MemberIsSafe}
use Rattle.eval_sound.specs.Safety.{AllFitting, Any, Context, Fitting, Grows, ResultFits, Safe, Setting}
use Rattle.eval_sound.proofs.Growth.{grows-on}
use Rattle.eval_sound.proofs.Moves.{all-more, bind_need, fits-more, safe-seq, safe-weaker}
use Rattle.eval_sound.proofs.Results.{safe-result}
use Rattle.eval_sound.proofs.Types.{Known}
use Rattle.library_sound.proofs.Holders.{HasUnits, receive}

abbrev pub library_number : ℕ → ClassId
library_number n = record { 0 = n }

abbrev pub is_tame_in : Option table.Member → Bool
is_tame_in row = unwrap_or (option_map (λ (m : table.Member). m.tame) row) false

-- a word of the library that names a method, and not its constructors
pub record IsMethodWord (number : List ℕ → NameId) (m : CoreMethod) (word : List ℕ) : Type 0 where
  pub name : m.name ≡ number word
  pub there : list_any (bytes_eq word) library_words ≡ true
  pub other : bytes_eq (codes "new") word ≡ false

-- what a member is, under names with these numbers
pub data Case (S : Setting) (number : List ℕ → NameId) (k : ClassId) (at : ℕ) (m : CoreMethod) : Type 0 where
  -- of a class whose constructors are handed their object
  member : is_tame_in (member_row k at) ≡ true → has_own_makers k ≡ false → MemberIsSafe S k at m → Case S number k at m
  -- a method of a class whose constructors make it
  method : is_tame_in (member_row k at) ≡ true → (word : List ℕ) → IsMethodWord number m word → MemberIsSafe S k at m → Case S number k at m
  maker : is_tame_in (member_row k at) ≡ true → has_own_makers k ≡ true → m.name ≡ number (codes "new") → MakerIsSafe S k at m → Case S number k at m
  wild : is_tame_in (member_row k at) ≡ false → is_wild (record { class = k; at = at }) ≡ true → (word : List ℕ) → IsMethodWord number m word → Case S number k at m
  abstract : m.flags.is_abstract ≡ true → Case S number k at m

-- ---- of each method, and of each class, by their places

module _ (S : Setting) (number : List ℕ → NameId) where
  infixr 30 ◌⋄◌
  -- the methods of a class from a place on
  pub data Each (k : ClassId) : ℕ → List CoreMethod → Type 0 where
    none : {at : ℕ} → Each k at []
    ◌⋄◌ : {at : ℕ} {m : CoreMethod} {ms : List CoreMethod} → Case S number k at m → Each k (suc at) ms → Each k at (m ∷ ms)

  pub each-at : (k : ClassId) (n : ℕ) (ms : List CoreMethod) → Each k n ms → (at : ℕ) (m : CoreMethod) → slice_get ms at ≡ Some m → Case S number k (at + n) m
  each-at k n [] none at m e = absurd cc
  each-at k n (x ∷ ms) (c ⋄ cs) zero m e = let p : n ≡ 0 + n = omega arith in subst (λ i. Case S number k i m) p (subst (Case S number k n) (same_Some x m e) c)
  each-at k n (x ∷ ms) (c ⋄ cs) (suc at) m e = let p : at + suc n ≡ suc at + n = omega arith in subst (λ i. Case S number k i m) p (each-at k (suc n) ms cs at m e)

  infixr 30 ◌⋄⋄◌
  -- the classes from a number on
  pub data EachClass : ℕ → List CoreClass → Type 0 where
    no_class : {n : ℕ} → EachClass n []
    ◌⋄⋄◌ : {n : ℕ} {c : CoreClass} {cs : List CoreClass} → Each (library_number n) 0 c.methods → EachClass (suc n) cs → EachClass n (c ∷ cs)

  pub each-class-at : (n : ℕ) (cs : List CoreClass) → EachClass n cs → (at : ℕ) (c : CoreClass) → slice_get cs at ≡ Some c → Each (library_number (at + n)) 0 c.methods
  each-class-at n [] no_class at c e = absurd cc
  each-class-at n (x ∷ cs) (p ⋄⋄ ps) zero c e = let q : n ≡ 0 + n = omega arith in
      subst (λ i. Each (library_number i) 0 c.methods) q (subst (λ (y : CoreClass). Each (library_number n) 0 y.methods) (same_Some x c e) p)
  each-class-at n (x ∷ cs) (p ⋄⋄ ps) (suc at) c e =
      let q : at + suc n ≡ suc at + n = omega arith in subst (λ i. Each (library_number i) 0 c.methods) q (each-class-at (suc n) cs ps at c e)

-- ---- calls

-- what is to be shown of what stands behind the look-up of a member's row
abbrev pub Runs : Setting → ClassId → CoreMethod → table.Member → Type 0
Runs S k m row = (c : Context) (w : List Obj) (this : Value) (given : List Value) → (m.flags.is_static ≡ false → ValueFits S.program w (class_type k) this) → AllFitting S.program m.params w given →
    Safe S c w (ResultFits S.program m.returns) (seq (pay row.cost S.program this given) (member_of_class row.class S.program k (table.signature_of row) this given))

abbrev pub Makes : Setting → ClassId → CoreMethod → table.Member → Type 0
Makes S k m row = (c : Context) (w : List Obj) (given : List Value) → AllFitting S.program m.params w given →
    Safe S c w (Fitting S.program (class_type k)) (seq (pay row.cost S.program Null given) (member_of_class row.class S.program k (table.signature_of row) Null given))

module _ {S : Setting} (fit : Known S.program) where
  pub runs : (k : ClassId) (at : ℕ) (m : CoreMethod) (row : table.Member) → member_row k at ≡ Some row → Runs S k m row → MemberIsSafe S k at m
  unfolding run_library
  runs k at m row e go = record { runs = λ c w this given f h. bind_need _ row e (go c w this given f h) }

  pub makes : (k : ClassId) (at : ℕ) (m : CoreMethod) (row : table.Member) → member_row k at ≡ Some row → Makes S k m row → MakerIsSafe S k at m
  unfolding run_library
  makes k at m row e go = record { runs = λ c w given h. bind_need _ row e (go c w given h) }

  -- what is paid, and then a value of a type
  pub paid : {c : Context} {w : List Obj} {ts : List Ty} {given : List Value} {t : Ty} {payment : Computation Nothing} {run : Computation Value} → Safe S c w Any payment → AllFitting S.program ts w given →
      ((later : List Obj) → Grows w later → AllFitting S.program ts later given → Safe S c later (Fitting S.program t) run) → Safe S c w (ResultFits S.program t) (seq payment run)
  paid p h k = safe-seq p λ later l. safe-result (k later l (all-more l h))

  -- a value that nothing reads
  pub paid-void : {c : Context} {w : List Obj} {ts : List Ty} {given : List Value} {payment : Computation Nothing} {run : Computation Value} → Safe S c w Any payment → AllFitting S.program ts w given →
      ((later : List Obj) → Grows w later → AllFitting S.program ts later given → Safe S c later Any run) → Safe S c w (ResultFits S.program void) (seq payment run)
  paid-void p h k = safe-seq p λ later l. safe-weaker (λ last l' v q. record { fits = λ e. absurd cc }) (k later l (all-more l h))

  -- what is paid, the receiver's units, and then a value of a type
  pub received : {c : Context} {w : List Obj} {ts : List Ty} {this : Value} {given : List Value} {s t : Ty} {payment : Computation Nothing} {f : ObjId → List ℕ → Computation Value} → Safe S c w Any payment →
      HasUnits S s → ValueFits S.program w s this → AllFitting S.program ts w given →
      ((later : List Obj) (o : ObjId) → ValueFits S.program later s (Ref o) → (units : List ℕ) → AllFitting S.program ts later given → Safe S c later (Fitting S.program t) (f o units)) →
      Safe S c w (ResultFits S.program t) (seq payment (bind (deref S.program this) λ o. bind (get_units o) λ units. f o units))
  received p has x h k = safe-seq p λ later l. safe-result (receive fit has (fits-more l x) λ last l' o y units. k last o y units (all-more (grows-on l l') h))

  pub received-void : {c : Context} {w : List Obj} {ts : List Ty} {this : Value} {given : List Value} {s : Ty} {payment : Computation Nothing} {f : ObjId → List ℕ → Computation Value} → Safe S c w Any payment →
      HasUnits S s → ValueFits S.program w s this → AllFitting S.program ts w given →
      ((later : List Obj) (o : ObjId) → ValueFits S.program later s (Ref o) → (units : List ℕ) → AllFitting S.program ts later given → Safe S c later Any (f o units)) →
      Safe S c w (ResultFits S.program void) (seq payment (bind (deref S.program this) λ o. bind (get_units o) λ units. f o units))
  received-void p has x h k = safe-seq p λ later l. safe-weaker (λ last l' v q. record { fits = λ e. absurd cc })
      (receive fit has (fits-more l x) λ last l' o y units. k last o y units (all-more (grows-on l l') h))
