-- A constructor by whether it has a body, and a body that is no block.
use Rattle.std.proofs.Common.{◌≡◌, ℕ, List, Option, Some, None, refl, sym, ap}
use Rattle.std.proofs.lemmas.Option.{none-some, same_Some}
use Rattle.std.specs.Prelude.{is_none, if◌then◌else◌}
use Rattle.je_core.specs.declared.types.ClassId.{ClassId}
use Rattle.je_core.specs.declared.value.Value.{Value}
use Rattle.je_core.specs.Core.{CoreForm, CoreMethod, CoreProgram, CoreStmt, CoreStmtForm, Empty, Block, Do, If, Loop, DoLoop, Switch, Labelled, Jump, Return, Throw, Try}
use Rattle.je_java.specs.LibraryMembers.{run_library}
use Rattle.je_java.specs.Meaning.{Meanings, build_by, build_form, build_with, member_at, run_constructor}
use Rattle.je_java.specs.Steps.{wrong}
use Rattle.machine_constructors.specs.way.Seen.{block_call}

module _ (p : CoreProgram) (m : Meanings) (class : ClassId) (at : ℕ) (method : CoreMethod) (this : Value) (given : List Value) where
  pub with_body : (body : CoreStmt) → Some body ≡ method.body → build_with m class method this given ≡ run_constructor p m (member_at class at) method this given
  with_body body e = ap (λ (b : Option CoreStmt). if is_none b then run_library p class at this given else build_with m class method this given) e

  pub without_body : None ≡ method.body → run_library p class at this given ≡ run_constructor p m (member_at class at) method this given
  without_body e = ap (λ (b : Option CoreStmt). if is_none b then run_library p class at this given else build_with m class method this given) e

-- a body by whether it is a block

pub no_block : (p : CoreProgram) (m : Meanings) (class : ClassId) (f : CoreStmtForm) → None ≡ block_call p f → wrong ≡ build_form p m class f
no_block p m class (Block locals parts) e = absurd (none-some _ e)
no_block p m class Empty e = refl
no_block p m class (Do x) e = refl
no_block p m class (If condition on_true on_false) e = refl
no_block p m class (Loop condition steps body) e = refl
no_block p m class (DoLoop body condition) e = refl
no_block p m class (Switch locals selector groups) e = refl
no_block p m class (Labelled name body) e = refl
no_block p m class (Jump again label) e = refl
no_block p m class (Return value) e = refl
no_block p m class (Throw value) e = refl
no_block p m class (Try body catches last) e = refl

pub of_block : (p : CoreProgram) (m : Meanings) (class : ClassId) (f : CoreStmtForm) (call : Option CoreForm) → Some call ≡ block_call p f →
    build_by p m class f call ≡ build_form p m class f
of_block p m class (Block locals parts) call e = ap (build_by p m class (Block locals parts)) (same_Some _ _ e)
of_block p m class Empty call e = absurd (none-some _ (sym e))
of_block p m class (Do x) call e = absurd (none-some _ (sym e))
of_block p m class (If condition on_true on_false) call e = absurd (none-some _ (sym e))
of_block p m class (Loop condition steps body) call e = absurd (none-some _ (sym e))
of_block p m class (DoLoop body condition) call e = absurd (none-some _ (sym e))
of_block p m class (Switch locals selector groups) call e = absurd (none-some _ (sym e))
of_block p m class (Labelled name body) call e = absurd (none-some _ (sym e))
of_block p m class (Jump again label) call e = absurd (none-some _ (sym e))
of_block p m class (Return value) call e = absurd (none-some _ (sym e))
of_block p m class (Throw value) call e = absurd (none-some _ (sym e))
of_block p m class (Try body catches last) call e = absurd (none-some _ (sym e))
