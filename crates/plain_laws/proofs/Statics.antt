-- Where all static fields are final, a body that fits assigns one only where it is a static initializer's.
use Rattle.std.proofs.Common.{◌≡◌, ℕ, List, [], ◌∷◌, Option, Some, refl, sym, ap, ◌∙◌, subst, true≢false}
use Rattle.std.specs.Prelude.{Bool, true, false, not}
use Rattle.std.specs.List.{All, list_all}
use Rattle.std.proofs.lemmas.Option.{same_Some}
use Rattle.std.proofs.lemmas.List.Elements.{All-head, All-tail}
use Rattle.je_base.specs.declared.span.Span.{Span}
use Rattle.je_core.specs.declared.types.ClassId.{ClassId}
use Rattle.je_core.specs.declared.types.Ty.{Ty}
use Rattle.je_core.specs.Core.{Core, CoreForm, Cores, MaybeCore, CoreField, CoreProgram, node, none, more, no_core, a_core, form_of}
use Rattle.je_core.specs.Core.{CoreStmt, CoreStmts, MaybeStmt, CoreGroups, CoreCatches, stmt, no_stmts, more_stmts, no_stmt, a_stmt, group, no_groups, more_groups, catch, no_catches, more_catches}
use Rattle.je_core.specs.Core as core
use Rattle.je_fitting.specs.Expressions.{Body, starts, field_at, IsPlace, Fits, MaybeFits, AllFit}
use Rattle.je_fitting.specs.Expressions as fits
use Rattle.je_fitting.specs.Members.{BodyFits, HeadFits, a_block, behind_a_call, head_call}
use Rattle.je_fitting.specs.Statements.{Targets, Gives, StatementFits, StatementsFit, GroupsFit, CatchesFit}
use Rattle.je_fitting.specs.Statements as statements
use Rattle.je_fitting.proofs.Booleans.{both, is_not}
use Rattle.plain_programs.specs.Nodes.{every, every_if, every_of, every_value, throughout_all, throughout_if, throughout_groups, throughout_catches, every_expression}
use Rattle.plain_programs.specs.Plain.{assigns_static, is_static_place}

abbrev pub StaticsAreFinal : CoreProgram → Type 0
StaticsAreFinal p = (c : ClassId) (at : ℕ) (f : CoreField) → field_at p c at ≡ Some f → f.is_static ≡ true → f.is_final ≡ true

-- a static field that is there
record IsStatic (p : CoreProgram) (c : ClassId) (at : ℕ) : Type 0 where
  f : CoreField
  there : field_at p c at ≡ Some f
  own : f.is_static ≡ true

abbrev Named : CoreProgram → CoreForm → Type 0
Named p (core.Static o c at) = IsStatic p c at
Named p _ = Unit {0}

module _ (p : CoreProgram) (body : Body) (final : StaticsAreFinal p) (later : starts body.code ≡ false) where
  named : (e : Core) → Fits p body e → Named p (form_of e)
  named _ (fits.static {f = f} o there own) = record { f = f; there = there; own = own }
  named _ _ = tt

  closed : {c : ClassId} {at : ℕ} {f : CoreField} → IsStatic p c at → field_at p c at ≡ Some f → f.is_final ≡ false → true ≡ false
  closed {c = c} {at = at} {f = f} s there blank =
      let one : s.f ≡ f = same_Some s.f f (sym s.there ∙ there) in
      sym (final c at s.f s.there s.own) ∙ ap (λ (g : CoreField). g.is_final) one ∙ blank

  no-static : (form : CoreForm) → Named p form → IsPlace p body form → is_static_place form ≡ false
  no-static _ n fits.a_local = refl
  no-static _ n fits.an_element = refl
  no-static _ n (fits.a_field there blank) = refl
  no-static _ n (fits.an_own_field this builds) = refl
  no-static _ n (fits.a_static there blank) = absurd (true≢false (closed n there blank))
  no-static _ n (fits.an_own_static own) = absurd (true≢false (sym own ∙ later))

  place : (e : Core) (form : CoreForm) (t : Ty) (span at : Span) → e ≡ node form t span at → Fits p body e → IsPlace p body form → not (is_static_place (form_of e)) ≡ true
  place e form t span at same fit is =
      let one : form_of e ≡ form = ap form_of same in
      is_not (ap is_static_place one ∙ no-static form (subst (Named p) one (named e fit)) is)

  abbrev asked : CoreForm → Bool
  asked f = not (assigns_static f)

  mutual
    expression : (e : Core) → Fits p body e → every asked e ≡ true
    expression _ (fits.const h k) = refl
    expression _ (fits.text h k) = refl
    expression _ (fits.local h) = refl
    expression _ (fits.this h) = refl
    expression _ (fits.field o h k s) = expression _ o
    expression _ (fits.static o h s) = maybe _ o
    expression _ (fits.index a h i k) = both (expression _ a) (expression _ i)
    expression _ (fits.length_of a h) = expression _ a
    expression _ (fits.assign {place = to} {form = form} {t = t} {span' = span} {at' = at} same q is value h k) = both (place to form t span at same q is) (both (expression _ q) (expression _ value))
    expression _ (fits.step {place = to} {form = form} {t = t} {span' = span} {at' = at} same q is back h k) = both (place to form t span at same q is) (both (expression _ q) refl)
    expression _ (fits.update {place = to} {form = form} {t = t} {span' = span} {at' = at} same q is back operand h) = both (place to form t span at same q is) (both (expression _ q) (expression _ operand))
    expression _ (fits.unary e h) = expression _ e
    expression _ (fits.binary l r h) = both (expression _ l) (expression _ r)
    expression _ (fits.and l r h k) = both (expression _ l) (expression _ r)
    expression _ (fits.or l r h k) = both (expression _ l) (expression _ r)
    expression _ (fits.choose c h y k n m q) = both (both (expression _ c) (expression _ y)) (expression _ n)
    expression _ (fits.convert e h k q) = expression _ e
    expression _ (fits.cast e h k q) = expression _ e
    expression _ (fits.instance_of e h k q) = expression _ e
    expression _ (fits.concat l r h) = both (expression _ l) (expression _ r)
    expression _ (fits.call_virtual o h k s q args r) = both (expression _ o) (all _ args)
    expression _ (fits.call_exact o h k s a q args r) = both (expression _ o) (all _ args)
    expression _ (fits.call_static o k s a q args r) = both (maybe _ o) (all _ args)
    expression _ (fits.new h k m q args r s) = all _ args
    expression _ (fits.new_array lengths h k q r) = all _ lengths
    expression _ (fits.array_with values h k) = all _ values

    maybe : {c : ClassId} (o : MaybeCore) → MaybeFits p body c o → every_if asked o ≡ true
    maybe _ fits.nothing = refl
    maybe _ (fits.something o h) = expression _ o

    all : (es : Cores) → AllFit p body es → every_of asked es ≡ true
    all _ fits.no_more = refl
    all _ (fits.one_more e es) = both (expression _ e) (all _ es)

  value : {t : Ty} (o : Option Core) → Gives p body t o → every_value asked o ≡ true
  value _ statements.no_value = refl
  value _ (statements.a_value e h) = expression _ e

  steps : (es : List Core) → All (Fits p body) es → list_all (every asked) es ≡ true
  steps [] h = refl
  steps (e ∷ es) h = both (expression e (All-head (Fits p body) e es h)) (steps es (All-tail (Fits p body) e es h))

  abbrev through : CoreStmt → Bool
  through s = every_expression asked s

  mutual
    statement : {j : Targets} (s : CoreStmt) → StatementFits p body j s → through s ≡ true
    statement _ statements.empty = refl
    statement _ (statements.block locals parts) = parts-of _ parts
    statement _ (statements.perform e) = expression _ e
    statement _ (statements.if_then c h first other) = both (both (expression _ c) (statement _ first)) (maybe-statement _ other)
    statement _ (statements.loop c h each inner) = both (both (expression _ c) (steps _ each)) (statement _ inner)
    statement _ (statements.do_loop inner c h) = both (statement _ inner) (expression _ c)
    statement _ (statements.switch locals selector h groups) = both (expression _ selector) (groups-of _ groups)
    statement _ (statements.labelled inner) = statement _ inner
    statement _ (statements.break h) = refl
    statement _ (statements.break_to h) = refl
    statement _ (statements.continue h) = refl
    statement _ (statements.continue_to h) = refl
    statement _ (statements.return h gives) = value _ gives
    statement _ (statements.throw e h) = expression _ e
    statement _ (statements.try inner catches last) = both (both (statement _ inner) (catches-of _ catches)) (maybe-statement _ last)

    parts-of : {j : Targets} (ss : CoreStmts) → StatementsFit p body j ss → throughout_all asked (λ f. true) ss ≡ true
    parts-of _ statements.no_statements = refl
    parts-of _ (statements.more_statements s ss) = both (statement _ s) (parts-of _ ss)

    maybe-statement : {j : Targets} (o : MaybeStmt) → statements.MaybeFits p body j o → throughout_if asked (λ f. true) o ≡ true
    maybe-statement _ statements.no_statement = refl
    maybe-statement _ (statements.a_statement s) = statement _ s

    groups-of : {j : Targets} (gs : CoreGroups) → GroupsFit p body j gs → throughout_groups asked (λ f. true) gs ≡ true
    groups-of _ statements.no_more_groups = refl
    groups-of _ (statements.one_more_group h parts gs) = both (parts-of _ parts) (groups-of _ gs)

    catches-of : {j : Targets} (cs : CoreCatches) → CatchesFit p body j cs → throughout_catches asked (λ f. true) cs ≡ true
    catches-of _ statements.no_more_catches = refl
    catches-of _ (statements.one_more_catch h k q inner cs) = both (statement _ inner) (catches-of _ cs)

  head : {superclass : Option ClassId} (e : Core) → HeadFits p body superclass e → every asked e ≡ true
  head _ (head_call is o c h k args q) = both (expression _ o) (all _ args)

  pub body_assigns_none : {superclass : Option ClassId} (s : CoreStmt) → BodyFits p body superclass s → through s ≡ true
  body_assigns_none _ (a_block s) = statement _ s
  body_assigns_none _ (behind_a_call code locals call parts) = both (head _ call) (parts-of _ parts)

  pub statement_assigns_none : {j : Targets} (s : CoreStmt) → StatementFits p body j s → through s ≡ true
  statement_assigns_none s h = statement s h
