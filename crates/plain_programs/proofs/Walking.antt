-- Where two tests pass throughout a body, so does each test that passes where both do.
use Rattle.std.proofs.Common.{◌≡◌, List, [], ◌∷◌, Option, Some, None, refl}
use Rattle.std.specs.Prelude.{Bool, true, ◌&&◌}
use Rattle.std.specs.List.{list_all}
use Rattle.je_core.specs.Core.{Core, CoreForm, Cores, MaybeCore, node, none, more, no_core, a_core}
use Rattle.je_core.specs.Core.{CoreStmt, CoreStmtForm, CoreStmts, MaybeStmt, CoreGroup, CoreGroups, CoreCatch, CoreCatches, stmt, no_stmts, more_stmts, no_stmt, a_stmt, group, no_groups, more_groups, catch, no_catches, more_catches}
use Rattle.je_core.specs.Core as core
use Rattle.je_fitting.proofs.Booleans.{two, both}
use Rattle.plain_programs.specs.Nodes.{every, every_part, every_if, every_of, every_value, throughout, throughout_parts, throughout_all, throughout_if, throughout_group, throughout_groups, throughout_catch, throughout_catches}

pair : (a b : Bool) {c d f g : Bool} → (a ≡ true → c ≡ true → f ≡ true) → (b ≡ true → d ≡ true → g ≡ true) → (a && b) ≡ true → (c && d) ≡ true → (f && g) ≡ true
pair a b {c = c} {d = d} m n h k = let x = two {a = a} {b = b} h in let y = two {a = c} {b = d} k in both (m x.0 y.0) (n x.1 y.1)

module _ (t u v : CoreForm → Bool) (joint : (f : CoreForm) → t f ≡ true → u f ≡ true → v f ≡ true) where
  mutual
    pub on_each : (e : Core) → every t e ≡ true → every u e ≡ true → every v e ≡ true
    on_each (node form ty span at) = pair (t form) (every_part t form) (joint form) (on_part form)

    on_part : (f : CoreForm) → every_part t f ≡ true → every_part u f ≡ true → every_part v f ≡ true
    on_part (core.Const w uses) h k = refl
    on_part (core.Text units uses) h k = refl
    on_part (core.Local n) h k = refl
    on_part core.This h k = refl
    on_part (core.Field o c n) h k = on_each o h k
    on_part (core.Static o c n) h k = on_if o h k
    on_part (core.Index a i) h k = pair (every t a) (every t i) (on_each a) (on_each i) h k
    on_part (core.Length a) h k = on_each a h k
    on_part (core.Assign a i) h k = pair (every t a) (every t i) (on_each a) (on_each i) h k
    on_part (core.Update a o i old) h k = pair (every t a) (every_if t i) (on_each a) (on_if i) h k
    on_part (core.Unary o e) h k = on_each e h k
    on_part (core.Binary o a i) h k = pair (every t a) (every t i) (on_each a) (on_each i) h k
    on_part (core.And a i) h k = pair (every t a) (every t i) (on_each a) (on_each i) h k
    on_part (core.Or a i) h k = pair (every t a) (every t i) (on_each a) (on_each i) h k
    on_part (core.Choose c a i) h k = pair (every t c && every t a) (every t i) (pair (every t c) (every t a) (on_each c) (on_each a)) (on_each i) h k
    on_part (core.Convert e) h k = on_each e h k
    on_part (core.Cast e) h k = on_each e h k
    on_part (core.InstanceOf e ty) h k = on_each e h k
    on_part (core.Concat a i) h k = pair (every t a) (every t i) (on_each a) (on_each i) h k
    on_part (core.CallVirtual o c n args) h k = pair (every t o) (every_of t args) (on_each o) (on_all args) h k
    on_part (core.CallExact o c n args) h k = pair (every_if t o) (every_of t args) (on_if o) (on_all args) h k
    on_part (core.New c n args captures word) h k = on_all args h k
    on_part (core.NewArray lengths) h k = on_all lengths h k
    on_part (core.ArrayOf values) h k = on_all values h k

    on_if : (o : MaybeCore) → every_if t o ≡ true → every_if u o ≡ true → every_if v o ≡ true
    on_if no_core h k = refl
    on_if (a_core e) h k = on_each e h k

    on_all : (es : Cores) → every_of t es ≡ true → every_of u es ≡ true → every_of v es ≡ true
    on_all none h k = refl
    on_all (more e es) h k = pair (every t e) (every_of t es) (on_each e) (on_all es) h k

  on_value : (o : Option Core) → every_value t o ≡ true → every_value u o ≡ true → every_value v o ≡ true
  on_value None h k = refl
  on_value (Some e) h k = on_each e h k

  on_steps : (es : List Core) → list_all (every t) es ≡ true → list_all (every u) es ≡ true → list_all (every v) es ≡ true
  on_steps [] h k = refl
  on_steps (e ∷ es) h k = pair (every t e) (list_all (every t) es) (on_each e) (on_steps es) h k

  module _ (a b c : CoreStmtForm → Bool) (asked : (f : CoreStmtForm) → a f ≡ true → b f ≡ true → c f ≡ true) where
    mutual
      pub through : (s : CoreStmt) → throughout t a s ≡ true → throughout u b s ≡ true → throughout v c s ≡ true
      through (stmt form span at) = pair (a form) (throughout_parts t a form) (asked form) (through_parts form)

      through_parts : (f : CoreStmtForm) → throughout_parts t a f ≡ true → throughout_parts u b f ≡ true → throughout_parts v c f ≡ true
      through_parts core.Empty h k = refl
      through_parts (core.Block locals parts) h k = through_all parts h k
      through_parts (core.Do e) h k = on_each e h k
      through_parts (core.If e s n) h k = pair (every t e && throughout t a s) (throughout_if t a n) (pair (every t e) (throughout t a s) (on_each e) (through s)) (through_if n) h k
      through_parts (core.Loop e steps s) h k = pair (every t e && list_all (every t) steps) (throughout t a s) (pair (every t e) (list_all (every t) steps) (on_each e) (on_steps steps)) (through s) h k
      through_parts (core.DoLoop s e) h k = pair (throughout t a s) (every t e) (through s) (on_each e) h k
      through_parts (core.Switch locals e groups) h k = pair (every t e) (throughout_groups t a groups) (on_each e) (through_groups groups) h k
      through_parts (core.Labelled name s) h k = through s h k
      through_parts (core.Jump again label) h k = refl
      through_parts (core.Return value) h k = on_value value h k
      through_parts (core.Throw e) h k = on_each e h k
      through_parts (core.Try s catches last) h k = pair (throughout t a s && throughout_catches t a catches) (throughout_if t a last)
          (pair (throughout t a s) (throughout_catches t a catches) (through s) (through_catches catches)) (through_if last) h k

      through_all : (ss : CoreStmts) → throughout_all t a ss ≡ true → throughout_all u b ss ≡ true → throughout_all v c ss ≡ true
      through_all no_stmts h k = refl
      through_all (more_stmts s ss) h k = pair (throughout t a s) (throughout_all t a ss) (through s) (through_all ss) h k

      through_if : (s : MaybeStmt) → throughout_if t a s ≡ true → throughout_if u b s ≡ true → throughout_if v c s ≡ true
      through_if no_stmt h k = refl
      through_if (a_stmt s) h k = through s h k

      through_group : (g : CoreGroup) → throughout_group t a g ≡ true → throughout_group u b g ≡ true → throughout_group v c g ≡ true
      through_group (group labels parts) h k = through_all parts h k

      through_groups : (gs : CoreGroups) → throughout_groups t a gs ≡ true → throughout_groups u b gs ≡ true → throughout_groups v c gs ≡ true
      through_groups no_groups h k = refl
      through_groups (more_groups g gs) h k = pair (throughout_group t a g) (throughout_groups t a gs) (through_group g) (through_groups gs) h k

      through_catch : (x : CoreCatch) → throughout_catch t a x ≡ true → throughout_catch u b x ≡ true → throughout_catch v c x ≡ true
      through_catch (catch n d span s) h k = through s h k

      through_catches : (xs : CoreCatches) → throughout_catches t a xs ≡ true → throughout_catches u b xs ≡ true → throughout_catches v c xs ≡ true
      through_catches no_catches h k = refl
      through_catches (more_catches x xs) h k = pair (throughout_catch t a x) (throughout_catches t a xs) (through_catch x) (through_catches xs) h k
