-- A loop, with the labels before it.
use Rattle.std.proofs.Common.{◌≡◌, List, [], ◌∷◌, Option, Some, None, refl, sym, ap, ◌∙◌, inl, inr}
use Rattle.std.specs.Prelude.{Bool, true, false, ◌||◌, ◌⊎◌, nat_eq, if◌then◌else◌}
use Rattle.std.specs.List.{All}
use Rattle.std.proofs.lemmas.List.Elements.{All-nil}
use Rattle.je_base.specs.declared.span.NameId.{NameId}
use Rattle.je_core.specs.Core.{Core, CoreStmt, CoreStmtForm, stmt, ty_of, stmt_form_of}
use Rattle.je_classes.specs.Members.{same_name}
use Rattle.je_fitting.specs.Expressions.{Body, Fits}
use Rattle.je_fitting.specs.Statements.{Targets, in_loop, labelled_by, label_of, is_loop_form, StatementFits, loop, do_loop, labelled}
use Rattle.je_fitting.specs.Types.{is_bool}
use Rattle.je_java.specs.Meaning.{Meanings, labels_of, behind_labels, taken_in, passed_in, steps_of, condition_of}
use Rattle.je_java.specs.Steps.{ret, takes, looped}
use Rattle.eval_sound.specs.Nodes.{Every, EveryStep, Throughout}
use Rattle.eval_sound.specs.Safety.{Setting, Allowed, Context, CanJump, break, break_to, continue, continue_to}
use Rattle.eval_sound.proofs.Landings.{Lands, stands}

-- what a loop behind labels has
pub record LoopHas (S : Setting) (c : Context) (form : CoreStmtForm) : Type 0 where
  pub condition : Core
  pub condition_fits : Fits S.program c.body condition
  pub condition_allowed : Every (Allowed S) condition
  pub of_bool : is_bool (ty_of condition) ≡ true
  pub steps_fit : All (Fits S.program c.body) (steps_of (behind_labels form))
  pub steps_allowed : EveryStep (Allowed S) (steps_of (behind_labels form))
  pub inner : CoreStmt
  pub targets : Targets
  pub inner_fits : StatementFits S.program c.body targets inner
  pub inner_allowed : Throughout (Allowed S) inner
  pub lands : Lands targets c.targets (takes (labels_of form)) true
  pub asks : condition_of (behind_labels form) ≡ Some condition
  pub goes : (m : Meanings) (node : CoreStmt) (labels : List NameId) → taken_in m node labels (behind_labels form) ≡ looped (takes labels) (m.again node) (m.exec inner)
  pub passes : (m : Meanings) → passed_in m (behind_labels form) ≡ ret tt

-- jumps into a loop without labels

pub in-loop : (j : Targets) → Lands (in_loop j) j (takes []) true
unfolding takes
in-loop j = record { comes = λ again label h. by h }
  where
    by : {again : Bool} {label : Option NameId} → CanJump (in_loop j) again label → ((takes [] label ≡ true) × (again ≡ true → true ≡ true)) ⊎ ((takes [] label ≡ false) × CanJump j again label)
    by (break e) = inl (refl, λ z. refl)
    by (break_to e) = inr (refl, break_to e)
    by (continue e) = inl (refl, λ z. refl)
    by (continue_to e) = inr (refl, continue_to e)

-- and with one more

behind-label : (name : NameId) (s : CoreStmt) (j inner : Targets) (labels : List NameId) → Lands inner (labelled_by name s j) (takes labels) true → Lands inner j (takes (name ∷ labels)) true
unfolding takes
behind-label name s j inner labels h = record { comes = λ again label k. by again label (h.comes again label k) }
  where
    found : (is_loop : Bool) (n : NameId) → (if same_name name n then Some (is_loop_form (stmt_form_of s)) else label_of j.labels n) ≡ Some is_loop → (b : Bool) → nat_eq name.0 n.0 ≡ b →
        (b ≡ false → label_of j.labels n ≡ Some is_loop)
    found is_loop n e false q z = sym (ap (λ b. if b then Some (is_loop_form (stmt_form_of s)) else label_of j.labels n) q) ∙ e
    found is_loop n e true q z = absurd cc

    with-name : (again : Bool) (n : NameId) → takes labels (Some n) ≡ false → CanJump (labelled_by name s j) again (Some n) → (b : Bool) → nat_eq name.0 n.0 ≡ b →
        (((b || takes labels (Some n)) ≡ true) × (again ≡ true → true ≡ true)) ⊎ (((b || takes labels (Some n)) ≡ false) × CanJump j again (Some n))
    with-name again n f k true q = inl (refl, λ z. refl)
    with-name _ n f (break_to {is_loop = is_loop} e) false q = inr (f, break_to (found is_loop n e false q refl))
    with-name _ n f (continue_to e) false q = inr (f, continue_to (found true n e false q refl))

    by : (again : Bool) (label : Option NameId) → ((takes labels label ≡ true) × (again ≡ true → true ≡ true)) ⊎ ((takes labels label ≡ false) × CanJump (labelled_by name s j) again label) →
        ((takes (name ∷ labels) label ≡ true) × (again ≡ true → true ≡ true)) ⊎ ((takes (name ∷ labels) label ≡ false) × CanJump j again label)
    by again None (inl q) = inl (refl, λ z. refl)
    by again None (inr q) = inl (refl, λ z. refl)
    by again (Some n) (inl q) = inl (either (nat_eq name.0 n.0) q.0, λ z. refl)
      where
        either : (b : Bool) → takes labels (Some n) ≡ true → (b || takes labels (Some n)) ≡ true
        either true z = refl
        either false z = z
    by again (Some n) (inr q) = with-name again n q.0 q.1 (nat_eq name.0 n.0) refl

module _ {S : Setting} where
  pub loop-has : {body : Body} {j : Targets} {s : CoreStmt} → StatementFits S.program body j s → Throughout (Allowed S) s → is_loop_form (behind_labels (stmt_form_of s)) ≡ true → LoopHas S (stands body j) (stmt_form_of s)
  loop-has {body = body} {j = j} (loop {c = e} {steps = es} {inner = b} f is fs g) x z = record {
    condition = e;
    condition_fits = f;
    condition_allowed = x.0;
    of_bool = is;
    steps_fit = fs;
    steps_allowed = x.1;
    inner = b;
    targets = in_loop j;
    inner_fits = g;
    inner_allowed = x.2;
    lands = in-loop j;
    asks = refl;
    goes = λ m node labels. refl;
    passes = λ m. refl;
  }
  loop-has {body = body} {j = j} (do_loop {c = e} {inner = b} g f is) x z = record {
    condition = e;
    condition_fits = f;
    condition_allowed = x.1;
    of_bool = is;
    steps_fit = All-nil (Fits S.program body);
    steps_allowed = tt;
    inner = b;
    targets = in_loop j;
    inner_fits = g;
    inner_allowed = x.0;
    lands = in-loop j;
    asks = refl;
    goes = λ m node labels. refl;
    passes = λ m. refl;
  }
  loop-has {j = j} (labelled {name = name} {inner = stmt form s a} f) x z =
      let h = loop-has f x z in
      record {
        condition = h.condition;
        condition_fits = h.condition_fits;
        condition_allowed = h.condition_allowed;
        of_bool = h.of_bool;
        steps_fit = h.steps_fit;
        steps_allowed = h.steps_allowed;
        inner = h.inner;
        targets = h.targets;
        inner_fits = h.inner_fits;
        inner_allowed = h.inner_allowed;
        lands = behind-label name (stmt form s a) j h.targets (labels_of form) h.lands;
        asks = h.asks;
        goes = h.goes;
        passes = h.passes;
      }
  loop-has _ x z = absurd cc
