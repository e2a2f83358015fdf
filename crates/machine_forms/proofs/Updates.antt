-- A compound assignment, once the object and the index of its place have values.
use Rattle.std.proofs.Common.{◌≡◌, Option, Some, None, refl, sym, ap, ◌∙◌}
use Rattle.std.specs.Prelude.{true, false, if◌then◌else◌}
use Rattle.je_core.specs.declared.expr.BinOp.{BinOp}
use Rattle.je_core.specs.declared.types.Ty.{Ty}
use Rattle.je_core.specs.declared.value.Value.{Value}
use Rattle.je_core.specs.Core.{CoreForm, Update, CoreProgram}
use Rattle.je_java.specs.Steps.{State, Run, Exits, Computation, bind, wrong, updated}
use Rattle.je_java.specs.Texts.{is_string, concatenated}
use Rattle.je_java.specs.Meaning.{Meanings, to_string, on_operand, changed, update_by, update_at}
use Rattle.machine_parts.specs.declared.frame.Fetched.{Fetched}
use Rattle.machine_parts.specs.Ways.{Ways, valued}
use Rattle.machine_forms.specs.way.Updating.{op_of}
use Rattle.machine_parts.specs.Telling.{put_by}
use Rattle.machine_parts.specs.way.Clauses.{operand_of, fetched_of, fetched_ways}

update_at_is : (p : CoreProgram) (m : Meanings) (ty : Ty) (form : CoreForm) (object index : Value) →
    bind (fetched_of p form object index) (λ old. on_operand m (operand_of form) (update_by p m ty form object index old)) ≡ update_at p m ty form object index
unfolding update_at bind wrong
update_at_is p m ty (Update place op operand gives_old) object index = refl
update_at_is p m ty _ object index = refl

-- how it goes on with what the reading of the place came to
pub fetched_first : (p : CoreProgram) (m : Meanings) (ty : Ty) (form : CoreForm) (object index : Value) (found : Fetched) (k : Ways) (s : State) →
    ((go : Value → Run) (exits : Exits) → fetched_ways p found go exits s ≡ fetched_of p form object index go exits s) →
    fetched_ways p found (λ old. on_operand m (operand_of form) (update_by p m ty form object index old) k.give k.out) k.out s ≡ valued (update_at p m ty form object index) k s
unfolding bind
fetched_first p m ty form object index found k s h = h _ _ ∙ ap (λ (n : Computation Value). valued n k s) (update_at_is p m ty form object index)

-- once the place and the operand have values

abbrev changed_by : CoreProgram → Meanings → Ty → Option BinOp → Value → Value → (Value → Computation Value) → Computation Value
changed_by p m ty None old b go = wrong
changed_by p m ty (Some op) old b go = bind (changed p m ty op old b) go

update_by_is : (p : CoreProgram) (m : Meanings) (ty : Ty) (form : CoreForm) (object index old b : Value) →
    changed_by p m ty (op_of form) old b (put_by p form object index old) ≡ update_by p m ty form object index old b
unfolding update_by bind wrong
update_by_is p m ty (Update place op operand gives_old) object index old b = refl
update_by_is p m ty _ object index old b = refl

module _ (p : CoreProgram) (m : Meanings) (ty : Ty) (form : CoreForm) (object index old b : Value) where
  abbrev put : Value → Computation Value
  put = put_by p form object index old

  update_is : changed_by p m ty (op_of form) old b put ≡ update_by p m ty form object index old b
  update_is = update_by_is p m ty form object index old b

  pub no_update : op_of form ≡ None → wrong ≡ update_by p m ty form object index old b
  no_update e = ap (λ o. changed_by p m ty o old b put) (sym e) ∙ update_is

  pub update_of_text : (op : BinOp) → op_of form ≡ Some op → is_string ty ≡ true →
      bind (concatenated (to_string p m) old b) (put_by p form object index old) ≡ update_by p m ty form object index old b
  update_of_text op e t =
      ap (λ holds. bind (if holds then concatenated (to_string p m) old b else updated p ty op old b) put) (sym t)
      ∙ ap (λ o. changed_by p m ty o old b put) (sym e) ∙ update_is

  pub update_of_number : (op : BinOp) → op_of form ≡ Some op → is_string ty ≡ false →
      bind (updated p ty op old b) (put_by p form object index old) ≡ update_by p m ty form object index old b
  update_of_number op e t =
      ap (λ holds. bind (if holds then concatenated (to_string p m) old b else updated p ty op old b) put) (sym t)
      ∙ ap (λ o. changed_by p m ty o old b put) (sym e) ∙ update_is
