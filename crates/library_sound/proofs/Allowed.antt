-- In a plain program each expression is one that names no wild member and joins no wild text.
use Rattle.std.proofs.Common.{◌≡◌, List, [], ◌∷◌, Option, Some, None, ◌∙◌}
use Rattle.std.specs.Prelude.{Bool, true, false, not, ◌&&◌}
use Rattle.std.specs.List.{list_all}
use Rattle.je_core.specs.Core.{Core, Cores, MaybeCore, CoreForm, CoreStmt, CoreStmtForm, CoreStmts, MaybeStmt, CoreGroup, CoreGroups, CoreCatch, CoreCatches, node, stmt, none, more, no_core, a_core, no_stmts, more_stmts, no_stmt, a_stmt, group, no_groups, more_groups, catch, no_catches, more_catches, form_of}
use Rattle.je_core.specs.Core as core
use Rattle.je_fitting.proofs.Booleans.{two, both}
use Rattle.plain_programs.specs.Nodes as plain
use Rattle.plain_programs.specs.Plain.{joins_wild, names_wild, of_initializer, of_method}
use Rattle.eval_sound.specs.Nodes.{Every, EveryIf, EveryOf, EveryPart, EveryStep, EveryValue, Throughout, ThroughoutAll, ThroughoutCatch, ThroughoutCatches, ThroughoutGroup, ThroughoutGroups, ThroughoutIf, ThroughoutParts}
use Rattle.eval_sound.specs.Safety.{Allowed}
use Rattle.library_sound.specs.Laws.{PlainIsAllowed}

three : {a b c : Bool} → (a && b && c) ≡ true → (a ≡ true) × (b ≡ true) × (c ≡ true)
three {a = a} {b = b} {c = c} h = let x = two {a = a && b} {b = c} h in let y = two {a = a} {b = b} x.0 in (y.0, y.1, x.1)

module _ (t u : CoreForm → Bool) (P : Core → Type 0) (holds : (e : Core) → t (form_of e) ≡ true → u (form_of e) ≡ true → P e) where
  mutual
    each : (e : Core) → plain.every t e ≡ true → plain.every u e ≡ true → Every P e
    each (node form ty span at) h k = let a = two {a = t form} h in let b = two {a = u form} k in (holds (node form ty span at) a.0 b.0, each-part form a.1 b.1)

    each-part : (f : CoreForm) → plain.every_part t f ≡ true → plain.every_part u f ≡ true → EveryPart P f
    each-part (core.Const v uses) h k = tt
    each-part (core.Text units uses) h k = tt
    each-part (core.Local n) h k = tt
    each-part core.This h k = tt
    each-part (core.Field o c n) h k = each o h k
    each-part (core.Static o c n) h k = each-if o h k
    each-part (core.Index a i) h k = let x = two {a = plain.every t a} h in let y = two {a = plain.every u a} k in (each a x.0 y.0, each i x.1 y.1)
    each-part (core.Length a) h k = each a h k
    each-part (core.Assign place value) h k = let x = two {a = plain.every t place} h in let y = two {a = plain.every u place} k in (each place x.0 y.0, each value x.1 y.1)
    each-part (core.Update place o operand old) h k = let x = two {a = plain.every t place} h in let y = two {a = plain.every u place} k in (each place x.0 y.0, each-if operand x.1 y.1)
    each-part (core.Unary o e) h k = each e h k
    each-part (core.Binary o l r) h k = let x = two {a = plain.every t l} h in let y = two {a = plain.every u l} k in (each l x.0 y.0, each r x.1 y.1)
    each-part (core.And l r) h k = let x = two {a = plain.every t l} h in let y = two {a = plain.every u l} k in (each l x.0 y.0, each r x.1 y.1)
    each-part (core.Or l r) h k = let x = two {a = plain.every t l} h in let y = two {a = plain.every u l} k in (each l x.0 y.0, each r x.1 y.1)
    each-part (core.Choose c y n) h k = let x = three {a = plain.every t c} {b = plain.every t y} h in let z = three {a = plain.every u c} {b = plain.every u y} k in (each c x.0 z.0, each y x.1 z.1, each n x.2 z.2)
    each-part (core.Convert e) h k = each e h k
    each-part (core.Cast e) h k = each e h k
    each-part (core.InstanceOf e ty) h k = each e h k
    each-part (core.Concat l r) h k = let x = two {a = plain.every t l} h in let y = two {a = plain.every u l} k in (each l x.0 y.0, each r x.1 y.1)
    each-part (core.CallVirtual o c n args) h k = let x = two {a = plain.every t o} h in let y = two {a = plain.every u o} k in (each o x.0 y.0, each-of args x.1 y.1)
    each-part (core.CallExact o c n args) h k = let x = two {a = plain.every_if t o} h in let y = two {a = plain.every_if u o} k in (each-if o x.0 y.0, each-of args x.1 y.1)
    each-part (core.New c n args captures word) h k = each-of args h k
    each-part (core.NewArray lengths) h k = each-of lengths h k
    each-part (core.ArrayOf values) h k = each-of values h k

    each-if : (o : MaybeCore) → plain.every_if t o ≡ true → plain.every_if u o ≡ true → EveryIf P o
    each-if no_core h k = tt
    each-if (a_core e) h k = each e h k

    each-of : (es : Cores) → plain.every_of t es ≡ true → plain.every_of u es ≡ true → EveryOf P es
    each-of none h k = tt
    each-of (more e es) h k = let x = two {a = plain.every t e} h in let y = two {a = plain.every u e} k in (each e x.0 y.0, each-of es x.1 y.1)

  each-value : (o : Option Core) → plain.every_value t o ≡ true → plain.every_value u o ≡ true → EveryValue P o
  each-value None h k = tt
  each-value (Some e) h k = each e h k

  each-step : (es : List Core) → list_all (plain.every t) es ≡ true → list_all (plain.every u) es ≡ true → EveryStep P es
  each-step [] h k = tt
  each-step (e ∷ es) h k = let x = two {a = plain.every t e} h in let y = two {a = plain.every u e} k in (each e x.0 y.0, each-step es x.1 y.1)

  mutual
    through : (s : CoreStmt) → plain.every_expression t s ≡ true → plain.every_expression u s ≡ true → Throughout P s
    through (stmt form span at) h k = through-parts form h k

    through-parts : (f : CoreStmtForm) → plain.throughout_parts t (λ f. true) f ≡ true → plain.throughout_parts u (λ f. true) f ≡ true → ThroughoutParts P f
    through-parts core.Empty h k = tt
    through-parts (core.Block locals parts) h k = through-all parts h k
    through-parts (core.Do e) h k = each e h k
    through-parts (core.If c y n) h k = let x = three {a = plain.every t c} {b = plain.every_expression t y} h in let z = three {a = plain.every u c} {b = plain.every_expression u y} k in (each c x.0 z.0, through y x.1 z.1, through-if n x.2 z.2)
    through-parts (core.Loop c steps inner) h k = let x = three {a = plain.every t c} {b = list_all (plain.every t) steps} h in let z = three {a = plain.every u c} {b = list_all (plain.every u) steps} k in (each c x.0 z.0, each-step steps x.1 z.1, through inner x.2 z.2)
    through-parts (core.DoLoop inner c) h k = let x = two {a = plain.every_expression t inner} h in let y = two {a = plain.every_expression u inner} k in (through inner x.0 y.0, each c x.1 y.1)
    through-parts (core.Switch locals selector groups) h k = let x = two {a = plain.every t selector} h in let y = two {a = plain.every u selector} k in (each selector x.0 y.0, through-groups groups x.1 y.1)
    through-parts (core.Labelled name inner) h k = through inner h k
    through-parts (core.Jump again label) h k = tt
    through-parts (core.Return value) h k = each-value value h k
    through-parts (core.Throw e) h k = each e h k
    through-parts (core.Try inner catches last) h k = let x = three {a = plain.every_expression t inner} {b = plain.throughout_catches t (λ f. true) catches} h in let z = three {a = plain.every_expression u inner} {b = plain.throughout_catches u (λ f. true) catches} k in (through inner x.0 z.0, through-catches catches x.1 z.1, through-if last x.2 z.2)

    through-all : (ss : CoreStmts) → plain.throughout_all t (λ f. true) ss ≡ true → plain.throughout_all u (λ f. true) ss ≡ true → ThroughoutAll P ss
    through-all no_stmts h k = tt
    through-all (more_stmts s ss) h k = let x = two {a = plain.every_expression t s} h in let y = two {a = plain.every_expression u s} k in (through s x.0 y.0, through-all ss x.1 y.1)

    through-if : (o : MaybeStmt) → plain.throughout_if t (λ f. true) o ≡ true → plain.throughout_if u (λ f. true) o ≡ true → ThroughoutIf P o
    through-if no_stmt h k = tt
    through-if (a_stmt s) h k = through s h k

    through-group : (g : CoreGroup) → plain.throughout_group t (λ f. true) g ≡ true → plain.throughout_group u (λ f. true) g ≡ true → ThroughoutGroup P g
    through-group (group labels parts) h k = through-all parts h k

    through-groups : (gs : CoreGroups) → plain.throughout_groups t (λ f. true) gs ≡ true → plain.throughout_groups u (λ f. true) gs ≡ true → ThroughoutGroups P gs
    through-groups no_groups h k = tt
    through-groups (more_groups g gs) h k = let x = two {a = plain.throughout_group t (λ f. true) g} h in let y = two {a = plain.throughout_group u (λ f. true) g} k in (through-group g x.0 y.0, through-groups gs x.1 y.1)

    through-catch : (c : CoreCatch) → plain.throughout_catch t (λ f. true) c ≡ true → plain.throughout_catch u (λ f. true) c ≡ true → ThroughoutCatch P c
    through-catch (catch n c span inner) h k = through inner h k

    through-catches : (cs : CoreCatches) → plain.throughout_catches t (λ f. true) cs ≡ true → plain.throughout_catches u (λ f. true) cs ≡ true → ThroughoutCatches P cs
    through-catches no_catches h k = tt
    through-catches (more_catches c cs) h k = let x = two {a = plain.throughout_catch t (λ f. true) c} h in let y = two {a = plain.throughout_catch u (λ f. true) c} k in (through-catch c x.0 y.0, through-catches cs x.1 y.1)

pub plain_is_allowed : PlainIsAllowed
plain_is_allowed setting test plain = record {
  methods = λ class c at method body there its is.
      let b = of_method class c at method body there its is in
      through (λ f. not (names_wild f)) (λ f. not (joins_wild setting.program f)) (Allowed setting) (λ e h k. test e ∙ both h k) body (plain.no_wild_named false body b) (plain.no_wild_joined false body b);
  initializers = λ class c at initializer there its.
      let b = of_initializer class c at initializer there its in
      through (λ f. not (names_wild f)) (λ f. not (joins_wild setting.program f)) (Allowed setting) (λ e h k. test e ∙ both h k) initializer.body
      (plain.no_wild_named initializer.is_static initializer.body b) (plain.no_wild_joined initializer.is_static initializer.body b);
}
