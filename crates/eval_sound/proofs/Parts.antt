-- What is known of a node's parts, and the values of arguments.
use Rattle.std.proofs.Common.{◌≡◌, List, [], ◌∷◌, ◌++◌, sym, subst, append_assoc, append-nil}
use Rattle.std.specs.Prelude.{true, false}
use Rattle.je_core.specs.declared.object.Obj.{Obj}
use Rattle.je_core.specs.declared.types.Ty.{Ty}
use Rattle.je_core.specs.declared.value.Value.{Value}
use Rattle.je_core.specs.Core.{Core, Cores, none, more, list_of, ty_of}
use Rattle.je_fitting.specs.Expressions.{Fits, AllFit, no_more, one_more}
use Rattle.je_fitting.specs.Types.{agrees, all_agree, is_void, types_of}
use Rattle.je_fitting.proofs.Booleans.{two}
use Rattle.je_java.specs.Meaning.{Meanings, adding, with_values}
use Rattle.je_java.specs.Steps.{Computation, bind}
use Rattle.eval_sound.specs.Laws.{MeaningsAreSafe}
use Rattle.eval_sound.specs.Nodes.{Every, EveryOf}
use Rattle.eval_sound.specs.Safety.{Setting, Allowed, Grows, Fitting, AllFitting, Context, Safe}
use Rattle.eval_sound.proofs.Growth.{grows-refl, grows-on}
use Rattle.eval_sound.proofs.Moves.{fits-more}
use Rattle.eval_sound.proofs.Results.{real-agrees, bind_result}
use Rattle.eval_sound.proofs.Types.{Known, fits-above}

module _ {S : Setting} (fit : Known S.program) {m : Meanings} (g : MeaningsAreSafe S m) where
  -- a part whose value is wanted
  pub bind_part : {B : Type 0} {Q : List Obj → B → Type 0} {c : Context} {w : List Obj} {e : Core} {f : Value → Computation B} → Fits S.program c.body e → Every (Allowed S) e → is_void (ty_of e) ≡ false →
      ((later : List Obj) → Grows w later → (v : Value) → Fitting S.program (ty_of e) later v → Safe S c later Q (f v)) → Safe S c w Q (bind (m.eval e) f)
  bind_part {w = w} f x r k = bind_result r (g.eval f x w) k

  -- one that goes to a place of a type
  pub bind_to : {B : Type 0} {Q : List Obj → B → Type 0} {c : Context} {w : List Obj} {e : Core} {f : Value → Computation B} (t : Ty) → Fits S.program c.body e → Every (Allowed S) e →
      agrees S.program (ty_of e) t ≡ true → ((later : List Obj) → Grows w later → (v : Value) → Fitting S.program t later v → Safe S c later Q (f v)) → Safe S c w Q (bind (m.eval e) f)
  bind_to {e = e} t f x a k = bind_part f x (real-agrees S.program (ty_of e) t a) λ later l v q. k later l v (fits-above S.program fit q a)

  -- arguments, each for its parameter
  pub safe-values : {Q : List Obj → Value → Type 0} {c : Context} {w : List Obj} (ps : List Ty) (args : Cores) (go : List Value → Computation Value) (done : List Value) → AllFit S.program c.body args →
      EveryOf (Allowed S) args → all_agree S.program (types_of (list_of args)) ps ≡ true →
      ((later : List Obj) → Grows w later → (values : List Value) → AllFitting S.program ps later values → Safe S c later Q (go (done ++ values))) → Safe S c w Q (with_values m (list_of args) go done)
  unfolding adding
  safe-values {Q = Q} {c = c} {w = w} [] none go done no_more x a k = subst (λ vs. Safe S c w Q (go vs)) (append-nil done) (k w grows-refl [] (record { each = tt }))
  safe-values (p ∷ ps) none go done no_more x a k = absurd cc
  safe-values [] (more e es) go done fs x a k = absurd cc
  safe-values {Q = Q} {c = c} (p ∷ ps) (more e es) go done (one_more f fs) x a k =
      let h = two {a = agrees S.program (ty_of e) p} {b = all_agree S.program (types_of (list_of es)) ps} a in
      bind_to p f x.0 h.0 λ later l v q. safe-values ps es go (done ++ v ∷ []) fs x.1 h.1 λ last l' values r.
      subst (λ vs. Safe S c last Q (go vs)) (sym (append_assoc done (v ∷ []) values)) (k last (grows-on l l') (v ∷ values) (record { each = (fits-more l' q, r.each) }))
