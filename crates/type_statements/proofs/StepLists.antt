-- The steps of a `for`, one after the other.
use Rattle.std.proofs.Common.{◌≡◌, ℕ, ◌+◌, ◌<◌, ◌≤◌, List, [], ◌∷◌, ◌++◌, length, drop, get_or, refl, ap, sym, ◌∙◌, append_assoc, append-nil}
use Rattle.std.proofs.lemmas.List.{map-append}
use Rattle.std.specs.declared.alloc.Global.{Global}
use Rattle.std.specs.declared.rc.Rc.{Rc}
use Rattle.je_ast.specs.declared.expr.Expr.{Expr}
use Rattle.je_ast.specs.Spans.{span_of}
use Rattle.je_ast.specs.View.{view, views_of}
use Rattle.je_core.specs.Core.{Core}
use Rattle.je_core.specs.declared.expr.Expr.{Expr as Node}
use Rattle.je_core.specs.View.{view as node_seen, views}
use Rattle.je_typing.specs.declared.fault.Refusal.{Refusal}
use Rattle.je_typing.specs.Answers.{IsFault}
use Rattle.je_typing.specs.Judged.{Judged, gives}
use Rattle.je_typing.specs.Typed.{TypedNode}
use Rattle.body_typing.specs.Expressions.{expression, read}
use Rattle.body_typing.specs.FinalVariables.{Scope}
use Rattle.body_typing.specs.Bodies.{Done, Progress, behind, followed, nothing_done, one, performed}
use Rattle.body_typing.specs.Statements.{ListDone, none_done, one_more, performed_steps, steps}
use Rattle.statement_forms.proofs.Following.{bind_kept}
use Rattle.statement_forms.specs.declared.walk.Walk.{Walk}
use Rattle.statement_forms.specs.Seen.{known_of, program_of, returning_of}
use Rattle.type_statements.proofs.Gathering.{gather_fails, gathered, gathered_all, gathers_on}
use Rattle.type_statements.proofs.Gathered.{followed_all, followed_further, nothing_gathered}

-- behind steps that came to nodes
abbrev pub after_steps : List Core → ListDone Core → ListDone Core
after_steps nodes rest = record { items = nodes ++ rest.items; progress = rest.progress }

module _ (w : Walk) (s : Scope) (es : List Expr) where
  abbrev steps_of : Progress → List Expr → Judged (ListDone Core)
  steps_of pr xs = steps (program_of w) (known_of w) (returning_of w) s pr (views_of xs)

  abbrev judged : Progress → Expr → Judged TypedNode
  judged pr e = expression (program_of w) (known_of w) s read (view e)

  abbrev after : Progress → Expr → TypedNode → Progress
  after pr e t = behind (program_of w) s (view e) pr

  abbrev pub steps_left : Judged (ListDone Core) → List (Rc Node Global) → Progress → ℕ → Type 0
  steps_left whole nodes pr i = whole ≡ gathered (after_steps (views nodes)) (steps_of pr (drop i es))

  pub steps_begin : (nodes : List (Rc Node Global)) (pr : Progress) → nodes ≡ [] → steps_left (steps_of pr es) nodes pr 0
  steps_begin nodes pr none =
      sym (bind_kept (steps_of pr es) (λ rest. gives (after_steps [] rest)) (λ rest. refl))
      ∙ ap (λ (done : List (Rc Node Global)). gathered (after_steps (views done)) (steps_of pr es)) (sym none)

  module _ (whole : Judged (ListDone Core)) (i : ℕ) (nodes : List (Rc Node Global)) (pr : Progress) where
    abbrev added : Progress → Expr → TypedNode → ListDone Core → ListDone Core
    added at e t = one_more t.node

    pub steps_on : (e : Expr) (t : TypedNode) (ready : List (Rc Node Global)) (node : Rc Node Global) (later : Progress) → i < length es → e ≡ get_or es i e →
        steps_left whole nodes pr i → judged pr e ≡ gives t → node_seen node.value ≡ t.node → ready ≡ nodes ++ node ∷ [] → later ≡ after pr e t →
        steps_left whole ready later (i + 1)
    steps_on e t ready node later within is met g n r l =
        let all : views ready ≡ views nodes ++ t.node ∷ [] =
        ap views r ∙ map-append (λ (x : Rc Node Global). node_seen x.value) nodes (node ∷ []) ∙ ap (λ (c : Core). views nodes ++ c ∷ []) n in
        gathers_on steps_of judged after added (λ at x xs. refl) es i pr whole (after_steps (views nodes)) e within is met
        t later (after_steps (views ready)) g l
        (λ rest. ap (λ (cs : List Core). record { items = cs; progress = rest.progress })
        (sym (append_assoc (views nodes) (t.node ∷ []) rest.items) ∙ ap (λ (cs : List Core). cs ++ rest.items) (sym all)))

    pub steps_fail : (e : Expr) (r : Refusal) → i < length es → e ≡ get_or es i e → steps_left whole nodes pr i → IsFault (judged pr e) r → IsFault whole r
    steps_fail e r within is met f =
        gather_fails steps_of judged after added (λ at x xs. refl) es i pr whole (after_steps (views nodes)) e within is met r f

    pub steps_end : length es ≤ i → steps_left whole nodes pr i → whole ≡ gives (record { items = views nodes; progress = pr })
    steps_end past met =
        gathered_all steps_of judged after added (λ at x xs. refl) es i pr whole (after_steps (views nodes))
        (none_done pr) (record { items = views nodes; progress = pr }) past refl
        (ap (λ (cs : List Core). record { items = cs; progress = pr }) (append-nil (views nodes))) met

  -- those that a `for` begins with
  abbrev performed_of : Progress → List Expr → Judged Done
  performed_of pr xs = performed_steps (program_of w) (known_of w) (returning_of w) s pr (views_of xs)

  abbrev by_itself : Progress → Expr → TypedNode → Done
  by_itself pr e t = one (performed (span_of (view e)) t.node) s (after pr e t)

  abbrev pub performed_left : Judged Done → Done → ℕ → Type 0
  performed_left whole a i = whole ≡ gathered (followed a) (performed_of a.progress (drop i es))

  module _ (whole : Judged Done) (i : ℕ) (a : Done) where
    abbrev followed_by : Progress → Expr → TypedNode → Done → Done
    followed_by at e t = followed (by_itself at e t)

    pub performed_on : (e : Expr) (t : TypedNode) (c : Done) → i < length es → e ≡ get_or es i e → performed_left whole a i → judged a.progress e ≡ gives t →
        c ≡ followed a (by_itself a.progress e t) → performed_left whole c (i + 1)
    performed_on e t c within is met g f =
        gathers_on performed_of judged after followed_by (λ at x xs. refl) es i a.progress whole (followed a) e within is met
        t c.progress (followed c) g (ap (λ (d : Done). d.progress) f)
        (λ rest. followed_further a (by_itself a.progress e t) rest ∙ ap (λ (d : Done). followed d rest) (sym f))

    pub performed_fail : (e : Expr) (r : Refusal) → i < length es → e ≡ get_or es i e → performed_left whole a i → IsFault (judged a.progress e) r → IsFault whole r
    performed_fail e r within is met f =
        gather_fails performed_of judged after followed_by (λ at x xs. refl) es i a.progress whole (followed a) e within is met r f

    pub performed_end : a.scope ≡ s → length es ≤ i → performed_left whole a i → whole ≡ gives a
    performed_end here past met =
        gathered_all performed_of judged after followed_by (λ at x xs. refl) es i a.progress whole (followed a)
        (nothing_done s a.progress) a past refl
        (ap (λ (at : Scope). followed a (nothing_done at a.progress)) (sym here) ∙ followed_all a) met

pub ruleset step_lists = (steps_begin, steps_on, steps_fail, steps_end)

pub ruleset performed_lists = (nothing_gathered, performed_on, performed_fail, performed_end)
