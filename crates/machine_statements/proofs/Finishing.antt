-- A `try` with and without a `finally`.
use Rattle.std.proofs.Common.{◌≡◌, refl}
use Rattle.je_core.specs.declared.value.ObjId.{ObjId}
use Rattle.je_core.specs.Core.{CoreStmt, MaybeStmt, no_stmt, a_stmt}
use Rattle.je_java.specs.Steps.{State, Computation, Nothing, catching, finally}
use Rattle.je_java.specs.Meaning.{Meanings, with_last}
use Rattle.machine_parts.specs.declared.frame.End.{End}
use Rattle.machine_parts.specs.declared.frame.End.TheVariants.{Next, Leave, Throw, Jump}
use Rattle.machine_parts.specs.Ways.{Ways, ended, catches, finishes, ended_by}

-- the body begins
pub try_begins : (last : MaybeStmt) (m : Meanings) (body : Computation Nothing) (handler : ObjId → Computation Nothing) (k : Ways) (s : State) →
    ended body (catches handler (finishes last m k)) s ≡ ended (with_last m last (catching body handler)) k s
unfolding catching finally
try_begins no_stmt m body handler k s = refl
try_begins (a_stmt last) m body handler k s = refl

-- the block behind `finally` begins
pub last_begins : (end : End) (last : CoreStmt) (m : Meanings) (k : Ways) (s : State) →
    ended (m.exec last) (record { give = k.give; next = λ u. ended_by end k; out = k.out }) s ≡ ended_by end (finishes (a_stmt last) m k) s
last_begins Next last m k s = refl
last_begins (Leave value) last m k s = refl
last_begins (Throw exception) last m k s = refl
last_begins (Jump again label) last m k s = refl
