-- Where the constant strings of code stand once among texts, those of each of its expressions do.
use Rattle.std.proofs.Common.{◌≡◌, ℕ, List, [], ◌∷◌, ◌++◌, Option, Some, None, refl, ap}
use Rattle.std.specs.Prelude.{Bool, true, ◌&&◌, flat_map, nat_eq}
use Rattle.std.specs.List.{list_all}
use Rattle.je_base.specs.declared.span.Span.{Span}
use Rattle.je_core.specs.Core.{Core, CoreCatch, CoreCatches, CoreForm, CoreGroup, CoreGroups, CoreStmt, CoreStmtForm, CoreStmts, Cores, MaybeCore, MaybeStmt, a_core, a_stmt, catch, group, more, more_catches, more_groups, more_stmts, no_catches, no_core, no_groups, no_stmt, no_stmts, node, none, stmt}
use Rattle.je_core.specs.Core as core
use Rattle.je_classes.specs.Members.{In, first}
use Rattle.je_classes.proofs.Sets.{in-left, in-right}
use Rattle.je_fitting.specs.Expressions.{StandOnce}
use Rattle.plain_programs.specs.Nodes.{every, every_if, every_of, every_part, every_value, throughout, throughout_all, throughout_catch, throughout_catches, throughout_group, throughout_groups, throughout_if, throughout_parts}
use Rattle.source_types.proofs.Same.{and-true}
use Rattle.typing_laws.specs.Fitting.{stands_once}
use Rattle.class_typing.specs.Texts.{TextAt, catch_texts, form_texts, group_texts, maybe_texts, one_catch_texts, one_group_texts, part_texts, statement_texts, texts_all, texts_if, texts_in, texts_maybe, texts_of}

-- each of them stands once
abbrev pub AreOnce : List (List ℕ) → List TextAt → Type 0
AreOnce texts ts = (t : TextAt) → In ts t → StandOnce t.units texts

module _ (texts : List (List ℕ)) where
  left : (xs ys : List TextAt) → AreOnce texts (xs ++ ys) → AreOnce texts xs
  left xs ys h t q = h t (in-left ys q)

  right : (xs ys : List TextAt) → AreOnce texts (xs ++ ys) → AreOnce texts ys
  right xs ys h t q = h t (in-right xs q)

  once-tested : (n : ℕ) → n ≡ 1 → nat_eq n 1 ≡ true
  once-tested n e = ap (λ k. nat_eq k 1) e

  -- what two parts come to
  both : (a b : Bool) (xs ys : List TextAt) → (AreOnce texts xs → a ≡ true) → (AreOnce texts ys → b ≡ true) →
      AreOnce texts (xs ++ ys) → (a && b) ≡ true
  both a b xs ys f g h = and-true a b (f (left xs ys h)) (g (right xs ys h))

  -- a form, behind the test of itself
  mutual
    pub once-node : (e : Core) → AreOnce texts (texts_of e) → every (stands_once texts) e ≡ true
    once-node (node form ty span at) h = and-true _ _ (once-form form span h) (once-parts form span h)

    once-form : (form : CoreForm) (span : Span) → AreOnce texts (texts_in span form) → stands_once texts form ≡ true
    once-form (core.Text units uses) span h = once-tested _ (h (record { units = units; span = span }) first)
    once-form form span h = refl

    once-parts : (form : CoreForm) (span : Span) → AreOnce texts (texts_in span form) → every_part (stands_once texts) form ≡ true
    once-parts (core.Const v uses) span h = refl
    once-parts (core.Text units uses) span h = refl
    once-parts (core.Local n) span h = refl
    once-parts core.This span h = refl
    once-parts (core.Field o c n) span h = once-node o h
    once-parts (core.Static o c n) span h = once-maybe o h
    once-parts (core.Index a i) span h = both (every (stands_once texts) a) (every (stands_once texts) i) (texts_of a) (texts_of i) (once-node a) (once-node i) h
    once-parts (core.Length a) span h = once-node a h
    once-parts (core.Assign place value) span h = both (every (stands_once texts) place) (every (stands_once texts) value) (texts_of place) (texts_of value) (once-node place) (once-node value) h
    once-parts (core.Update place o operand old) span h = both (every (stands_once texts) place) (every_if (stands_once texts) operand) (texts_of place) (texts_maybe operand) (once-node place) (once-maybe operand) h
    once-parts (core.Unary o e) span h = once-node e h
    once-parts (core.Binary o l r) span h = both (every (stands_once texts) l) (every (stands_once texts) r) (texts_of l) (texts_of r) (once-node l) (once-node r) h
    once-parts (core.And l r) span h = both (every (stands_once texts) l) (every (stands_once texts) r) (texts_of l) (texts_of r) (once-node l) (once-node r) h
    once-parts (core.Or l r) span h = both (every (stands_once texts) l) (every (stands_once texts) r) (texts_of l) (texts_of r) (once-node l) (once-node r) h
    once-parts (core.Choose c y n) span h = both (every (stands_once texts) c && every (stands_once texts) y) (every (stands_once texts) n) (texts_of c ++ texts_of y) (texts_of n) (both (every (stands_once texts) c) (every (stands_once texts) y) (texts_of c) (texts_of y) (once-node c) (once-node y)) (once-node n) h
    once-parts (core.Convert e) span h = once-node e h
    once-parts (core.Cast e) span h = once-node e h
    once-parts (core.InstanceOf e u) span h = once-node e h
    once-parts (core.Concat l r) span h = both (every (stands_once texts) l) (every (stands_once texts) r) (texts_of l) (texts_of r) (once-node l) (once-node r) h
    once-parts (core.CallVirtual o c n args) span h = both (every (stands_once texts) o) (every_of (stands_once texts) args) (texts_of o) (texts_all args) (once-node o) (once-all args) h
    once-parts (core.CallExact o c n args) span h = both (every_if (stands_once texts) o) (every_of (stands_once texts) args) (texts_maybe o) (texts_all args) (once-maybe o) (once-all args) h
    once-parts (core.New c n args captures word) span h = once-all args h
    once-parts (core.NewArray lengths) span h = once-all lengths h
    once-parts (core.ArrayOf values) span h = once-all values h

    once-maybe : (o : MaybeCore) → AreOnce texts (texts_maybe o) → every_if (stands_once texts) o ≡ true
    once-maybe no_core h = refl
    once-maybe (a_core e) h = once-node e h

    once-all : (es : Cores) → AreOnce texts (texts_all es) → every_of (stands_once texts) es ≡ true
    once-all none h = refl
    once-all (more e es) h = both (every (stands_once texts) e) (every_of (stands_once texts) es) (texts_of e) (texts_all es) (once-node e) (once-all es) h

  pub once-value : (o : Option Core) → AreOnce texts (texts_if o) → every_value (stands_once texts) o ≡ true
  once-value None h = refl
  once-value (Some e) h = once-node e h

  once-steps : (es : List Core) → AreOnce texts (flat_map texts_of es) → list_all (every (stands_once texts)) es ≡ true
  once-steps [] h = refl
  once-steps (e ∷ es) h = both (every (stands_once texts) e) (list_all (every (stands_once texts)) es) (texts_of e) (flat_map texts_of es) (once-node e) (once-steps es) h

  -- ---- statements

  abbrev any : CoreStmtForm → Bool
  any f = true

  mutual
    pub once-statement : (s : CoreStmt) → AreOnce texts (statement_texts s) → throughout (stands_once texts) any s ≡ true
    once-statement (stmt form span at) h = once-form-of form h

    once-form-of : (form : CoreStmtForm) → AreOnce texts (form_texts form) → throughout_parts (stands_once texts) any form ≡ true
    once-form-of core.Empty h = refl
    once-form-of (core.Block locals parts) h = once-each parts h
    once-form-of (core.Do e) h = once-node e h
    once-form-of (core.If c y n) h = both (every (stands_once texts) c && throughout (stands_once texts) any y) (throughout_if (stands_once texts) any n) (texts_of c ++ statement_texts y) (maybe_texts n) (both (every (stands_once texts) c) (throughout (stands_once texts) any y) (texts_of c) (statement_texts y) (once-node c) (once-statement y)) (once-if n) h
    once-form-of (core.Loop c steps inner) h = both (every (stands_once texts) c && list_all (every (stands_once texts)) steps) (throughout (stands_once texts) any inner) (texts_of c ++ flat_map texts_of steps) (statement_texts inner) (both (every (stands_once texts) c) (list_all (every (stands_once texts)) steps) (texts_of c) (flat_map texts_of steps) (once-node c) (once-steps steps)) (once-statement inner) h
    once-form-of (core.DoLoop inner c) h = both (throughout (stands_once texts) any inner) (every (stands_once texts) c) (statement_texts inner) (texts_of c) (once-statement inner) (once-node c) h
    once-form-of (core.Switch locals selector groups) h = both (every (stands_once texts) selector) (throughout_groups (stands_once texts) any groups) (texts_of selector) (group_texts groups) (once-node selector) (once-groups groups) h
    once-form-of (core.Labelled name inner) h = once-statement inner h
    once-form-of (core.Jump again label) h = refl
    once-form-of (core.Return value) h = once-value value h
    once-form-of (core.Throw e) h = once-node e h
    once-form-of (core.Try inner catches last) h = both (throughout (stands_once texts) any inner && throughout_catches (stands_once texts) any catches) (throughout_if (stands_once texts) any last) (statement_texts inner ++ catch_texts catches) (maybe_texts last) (both (throughout (stands_once texts) any inner) (throughout_catches (stands_once texts) any catches) (statement_texts inner) (catch_texts catches) (once-statement inner) (once-catches catches)) (once-if last) h

    once-each : (ss : CoreStmts) → AreOnce texts (part_texts ss) → throughout_all (stands_once texts) any ss ≡ true
    once-each no_stmts h = refl
    once-each (more_stmts s ss) h = both (throughout (stands_once texts) any s) (throughout_all (stands_once texts) any ss) (statement_texts s) (part_texts ss) (once-statement s) (once-each ss) h

    once-if : (s : MaybeStmt) → AreOnce texts (maybe_texts s) → throughout_if (stands_once texts) any s ≡ true
    once-if no_stmt h = refl
    once-if (a_stmt s) h = once-statement s h

    once-group : (g : CoreGroup) → AreOnce texts (one_group_texts g) → throughout_group (stands_once texts) any g ≡ true
    once-group (group labels parts) h = once-each parts h

    once-groups : (gs : CoreGroups) → AreOnce texts (group_texts gs) → throughout_groups (stands_once texts) any gs ≡ true
    once-groups no_groups h = refl
    once-groups (more_groups g gs) h = both (throughout_group (stands_once texts) any g) (throughout_groups (stands_once texts) any gs) (one_group_texts g) (group_texts gs) (once-group g) (once-groups gs) h

    once-catch : (c : CoreCatch) → AreOnce texts (one_catch_texts c) → throughout_catch (stands_once texts) any c ≡ true
    once-catch (catch n c span inner) h = once-statement inner h

    once-catches : (cs : CoreCatches) → AreOnce texts (catch_texts cs) → throughout_catches (stands_once texts) any cs ≡ true
    once-catches no_catches h = refl
    once-catches (more_catches c cs) h = both (throughout_catch (stands_once texts) any c) (throughout_catches (stands_once texts) any cs) (one_catch_texts c) (catch_texts cs) (once-catch c) (once-catches cs) h
