-- The catches of a `try` in memory, from a place on.
use Rattle.std.proofs.Common.{◌≡◌, ◌<◌, ◌+◌, ℕ, suc, List, ◌∷◌, length, map, drop, get_or, Some, sym, ap, ◌∙◌, add-one}
use Rattle.std.proofs.Math.Seq.{drop-cons}
use Rattle.std.specs.Prelude.{if◌then◌else◌}
use Rattle.je_core.specs.declared.types.ClassId.{ClassId}
use Rattle.je_core.specs.declared.stmt.Catch.{Catch, out-Catch}
use Rattle.je_core.specs.Core.{CoreProgram}
use Rattle.je_core.specs.View.{catch_view}
use Rattle.je_core.proofs.Views.{catch_view_is}
use Rattle.je_java.specs.Subclasses.{is_subclass}
use Rattle.je_java.specs.Meaning.{catch_for}

pub catch_step : (p : CoreProgram) (own : ClassId) (cs : List Catch) (i : ℕ) (x : Catch) → i < length cs → x ≡ get_or cs i x →
    catch_for p (map catch_view (drop i cs)) own ≡
    (if is_subclass p own (out-Catch x).class then Some (catch_view x) else catch_for p (map catch_view (drop (i + 1) cs)) own)
catch_step p own cs i x below e = rw add-one
    (ap (λ xs. catch_for p (map catch_view xs) own) (drop-cons cs i x below ∙ (λ j. sym e j ∷ drop (suc i) cs))
    ∙ ap (λ c. catch_for p (c ∷ map catch_view (drop (suc i) cs)) own) (catch_view_is x)
    ∙ ap (λ c. if is_subclass p own (out-Catch x).class then Some c else catch_for p (map catch_view (drop (suc i) cs)) own) (sym (catch_view_is x)))
