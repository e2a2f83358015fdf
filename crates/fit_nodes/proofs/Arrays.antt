-- A new array of elements that fit.
use Rattle.std.proofs.Common.{◌≡◌, List, refl}
use Rattle.std.specs.Prelude.{true, ◌&&◌, nat_lt}
use Rattle.std.specs.List.{list_all}
use Rattle.je_core.specs.declared.types.Ty.{Ty}
use Rattle.je_core.specs.Core.{Core, CoreProgram, cores, list_of}
use Rattle.je_core.specs.Core as core
use Rattle.je_fitting.specs.Types.{agrees, is_variable_type, types_of}
use Rattle.je_fitting.specs.Expressions.{Body}
use Rattle.je_fitting.specs.way.Deciding.{element_of, is_form_fit, are_fit}

pub elements_fit : (p : CoreProgram) (b : Body) (vs : List Core) (t : Ty) → are_fit p b (cores vs) ≡ true →
    is_form_fit p b (core.ArrayOf (cores vs)) t ≡
    (nat_lt 0 t.dims && list_all (λ v. agrees p v (element_of t)) (types_of (list_of (cores vs))) &&
    is_variable_type p (element_of t))
elements_fit p b vs t e = rw e refl
