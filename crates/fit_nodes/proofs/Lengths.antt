-- How many nodes a list has, and one dimension less.
use Rattle.std.proofs.Common.{◌≡◌, ℕ, zero, suc, ◌-◌, List, [], ◌∷◌, length, refl, ap, ◌∙◌, arith}
use Rattle.std.specs.declared.rc.Rc.{Rc}
use Rattle.std.specs.declared.alloc.Global.{Global}
use Rattle.je_core.specs.declared.expr.Expr.{Expr}
use Rattle.je_core.specs.Core.{list_of, cores}
use Rattle.je_core.specs.View.{views}
use Rattle.je_core.proofs.Views.{list_of_cores}
use Rattle.je_fitting.specs.way.Deciding.{pred}

many : (es : List (Rc Expr Global)) → length (views es) ≡ length es
many [] = refl
many (e ∷ es) = ap suc (many es)

pub lengths : (es : List (Rc Expr Global)) → length (list_of (cores (views es))) ≡ length es
lengths es = ap length (list_of_cores (views es)) ∙ many es

pub pred_is : (n : ℕ) → pred n ≡ n - 1
pred_is zero = refl
pred_is (suc n) = omega arith
