-- What the functions that mark classes as started, and that look for their initializers, come to.
use Rattle.std.specs.Prelude.{◌≡◌, ℕ, List, drop, Option, Some, None, true, if◌then◌else◌}
use Rattle.je_core.specs.declared.types.ClassId.{ClassId}
use Rattle.je_core.specs.declared.value.Value.TheVariants.{Null}
use Rattle.je_core.specs.Core.{CoreProgram}
use Rattle.je_classes.specs.Hierarchy.{class_at}
use Rattle.je_java.specs.Constructors.{initializers_in}
use Rattle.je_java.specs.Meaning.{Meanings, run_initializers, start}
use Rattle.je_java.specs.Steps.{State, Outside, Done, Run, Exits, is_started, initializing, out_of_start, with_outside}
use Rattle.machine_parts.specs.Starts.{initialize_all, load_from}
use Rattle.machine_parts.specs.declared.frame.ClassesLeft.{ClassesLeft}
use Rattle.machine_parts.specs.way.Clauses.{from_first}
use Rattle.machine_starts.specs.declared.starting.NextLoad.{NextLoad}

abbrev pub unless_started : Outside → Option ClassId → Option ClassId
unless_started outside None = None
unless_started outside (Some class) = if is_started outside class then None else Some class

-- with one set of classes started before and another after, what is left of the start of a class is the initializers of
-- those on a path
abbrev pub Marks : CoreProgram → ClassId → Outside → Outside → List ClassId → Type 0
Marks program class before after path = (m : Meanings) (go : Run) (exits : Exits) (s : State) →
    initialize_all program m path go (with_outside s after) ≡ start program m class (λ u. go) exits (with_outside s before)

-- the initializers of the classes on a path are those of the class that was found, and of the classes that are left
abbrev pub NextClass : CoreProgram → List ClassId → List ClassId → Option (ClassId × ℕ) → Type 0
NextClass program path left None = (m : Meanings) (go : Run) (s : State) → go s ≡ initialize_all program m path go s
NextClass program path left (Some (class, place)) = (m : Meanings) (go : Run) (s : State) →
    initializing class (run_initializers m Null (from_first true (drop place (initializers_in (class_at program class)))))
    (λ u. initialize_all program m left go) (out_of_start class) s ≡ initialize_all program m path go s

-- with one set of classes started before and another after, what is left of a load are the initializers of the class that
-- was found and of those behind it, and the classes that are left
abbrev pub LoadsNext : CoreProgram → ClassesLeft → Outside → Outside → Option NextLoad → Type 0
LoadsNext program left before after None = (m : Meanings) (s : State) →
    Done None (with_outside s after) ≡ load_from program m left.next left.count (with_outside s before)
LoadsNext program left before after (Some next) = (m : Meanings) (s : State) →
    initializing next.class (run_initializers m Null (from_first true (drop next.place (initializers_in (class_at program next.class)))))
    (λ u. initialize_all program m next.path (load_from program m next.left.next next.left.count)) (out_of_start next.class) (with_outside s after) ≡
    load_from program m left.next left.count (with_outside s before)
