-- Arrays by their dimensions.
use Rattle.std.proofs.Common.{◌≡◌, ℕ, zero, suc, true, false, nat_eq, refl, ap, sym, ◌∙◌, arith}
use Rattle.std.specs.Prelude.{not}
use Rattle.std.proofs.lemmas.Bool.Decides.{nat_tests}
use Rattle.je_scopes.specs.SourceTypes.{SourceType, plain, of_class, of_variable}
use Rattle.name_types.specs.declared.types.SrcTy.{SrcTy}
use Rattle.name_types.specs.View.{shown}
use Rattle.name_typing.specs.Accesses.{is_array}
use Rattle.source_subtypes.proofs.Equal.{shown-dims}
use Rattle.source_types.specs.Subtypes.{dims_of}

some-more : (n : ℕ) → not (nat_eq (suc n) 0) ≡ true
some-more n = let e : nat_eq (suc n) 0 ≡ false = grind (arith, nat_tests) in ap not e

by-dims : (t : SourceType) → not (nat_eq (dims_of t) 0) ≡ is_array t
by-dims (plain b zero) = refl
by-dims (plain b (suc n)) = some-more n
by-dims (of_class c args zero) = refl
by-dims (of_class c args (suc n)) = some-more n
by-dims (of_variable c at zero) = refl
by-dims (of_variable c at (suc n)) = some-more n

pub array_dims : (t : SrcTy) → not (nat_eq t.dims 0) ≡ is_array (shown t)
array_dims t = ap (λ (n : ℕ). not (nat_eq n 0)) (sym (shown-dims t)) ∙ by-dims (shown t)
