-- What bases show, and the base of a class with its type arguments.
use Rattle.std.proofs.Common.{◌≡◌, ℕ, Bool, true, false, nat_eq, min, List, [], ◌∷◌, length, refl, sym, ap, ◌∙◌, arith}
use Rattle.std.specs.Prelude.{if◌then◌else◌}
use Rattle.std.specs.declared.vec.Vec.{Vec}
use Rattle.std.specs.declared.alloc.Global.{Global}
use Rattle.std.proofs.lemmas.Bool.{eqb-true, eq-eqb}
use Rattle.je_core.specs.declared.types.ClassId.{ClassId}
use Rattle.je_core.specs.declared.types.Base.{Base}
use Rattle.je_core.specs.declared.types.Base.TheVariants as base
use Rattle.je_classes.proofs.Lists.{bool_cases}
use Rattle.je_scopes.specs.Looks.{a_class}
use Rattle.je_scopes.specs.Source.{Source}
use Rattle.je_scopes.specs.SourceTypes.{SourceTypes, of_class, of_variable, no_source_types, arity_of, null_type, type_for}
use Rattle.name_types.specs.declared.types.SrcBase.TheVariants.{Plain, Made, Var, outs-Plain, outs-Made, outs-Var}
use Rattle.name_types.specs.declared.types.SrcTy.{SrcTy}
use Rattle.name_types.specs.View.{all_shown, base_layer, base_shown, in_limit, all_in_limit, plain_shown, shown}
use Rattle.name_types.proofs.Views.{base_is}

pub plain_base : (b : Base) (n : ℕ) → base_shown (Plain b) n ≡ plain_shown b n
plain_base b n = base_is (Plain b) n ∙ ap (λ f. base_layer shown f n) (outs-Plain b)

pub made_base : (c : ClassId) (args : Vec SrcTy Global) (n : ℕ) → base_shown (Made c args) n ≡ of_class c.0 (all_shown args.items) n
made_base c args n = base_is (Made c args) n ∙ ap (λ f. base_layer shown f n) (outs-Made c args)

pub variable_base : (c : ClassId) (at n : ℕ) → base_shown (Var c at) n ≡ of_variable c.0 at n
variable_base c at n = base_is (Var c at) n ∙ ap (λ f. base_layer shown f n) (outs-Var c at)

not-same : (m n : ℕ) → (m ≡ n → ⊥) → nat_eq m n ≡ false
not-same m n h = bool_cases (λ b. b ≡ false) (nat_eq m n) (λ e. absurd (h (eqb-true m n e))) (λ e. refl)

module _ (p : Source) (c : ClassId) (types : Vec SrcTy Global) (ts : SourceTypes) (n : ℕ) where
  counted : (b : Bool) → nat_eq (length types.items) (arity_of p c.0) ≡ b → in_limit (if b then of_class c.0 ts n else null_type n) ≡ in_limit (type_for p (a_class c.0) (length types.items) ts n)
  counted b e = ap (λ (k : Bool). in_limit (if k then of_class c.0 ts n else null_type n)) (sym e)

  pub wrong_count : (length types.items ≡ arity_of p c.0 → ⊥) → base_shown (Plain base.Null) (min 255 n) ≡ in_limit (type_for p (a_class c.0) (length types.items) ts n)
  wrong_count h = plain_base base.Null (min 255 n) ∙ counted false (not-same (length types.items) (arity_of p c.0) h)

  nothing-shown : (xs : List SrcTy) → length xs ≡ 0 → no_source_types ≡ all_shown xs
  nothing-shown [] e = refl
  nothing-shown (x ∷ xs) e = absurd (omega arith)

  pub no_arguments : length types.items ≡ arity_of p c.0 → length types.items ≡ 0 → all_shown types.items ≡ all_in_limit ts → base_shown (Plain (base.Class c)) (min 255 n) ≡ in_limit (type_for p (a_class c.0) (length types.items) ts n)
  no_arguments h z e = plain_base (base.Class c) (min 255 n) ∙ ap (λ (us : SourceTypes). of_class c.0 us (min 255 n)) (nothing-shown types.items z ∙ e)
      ∙ counted true (eq-eqb (length types.items) (arity_of p c.0) h)

  pub with_arguments : length types.items ≡ arity_of p c.0 → all_shown types.items ≡ all_in_limit ts → base_shown (Made c types) (min 255 n) ≡ in_limit (type_for p (a_class c.0) (length types.items) ts n)
  with_arguments h e = made_base c types (min 255 n) ∙ ap (λ (us : SourceTypes). of_class c.0 us (min 255 n)) e
      ∙ counted true (eq-eqb (length types.items) (arity_of p c.0) h)
