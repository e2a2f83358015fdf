-- Which classes count as started in a call, and how a run goes on behind initializers of a class itself (JLS 12.4.2).
use Rattle.std.specs.Prelude.{ℕ, zero, suc, List, [], ◌∷◌, drop, filter, Option, None}
use Rattle.je_core.specs.declared.types.ClassId.{ClassId}
use Rattle.je_core.specs.declared.value.Value.TheVariants.{Null}
use Rattle.je_core.specs.Core.{CoreInitializer, CoreClass, CoreProgram}
use Rattle.je_classes.specs.Hierarchy.{class_at}
use Rattle.je_java.specs.Constructors.{initializers_in}
use Rattle.je_java.specs.Meaning.{Meanings, is_static, static_initializers, run_initializers, start}
use Rattle.je_java.specs.Steps.{Outside, Done, Run, initializing, out_of_start, with_starting}
use Rattle.je_load.specs.Loading.{no_exits}

-- no class is left to be started
abbrev pub all_started : Outside
all_started = record { started = []; starting = None }

-- the initializers of a class itself from a place among all of its initializers on
abbrev pub static_from : Option CoreClass → ℕ → List CoreInitializer
static_from class at = filter is_static (drop at (initializers_in class))

-- the initializers of some classes, one class after another, and then what follows
abbrev pub initialize_all : CoreProgram → Meanings → List ClassId → Run → Run
initialize_all program m [] go = go
initialize_all program m (class ∷ classes) go =
    initializing class (run_initializers m Null (static_initializers (class_at program class)))
    (λ u. initialize_all program m classes go) (out_of_start class)

-- those of a class from a place on, then those of other classes, and then what follows; `outer` is the class whose
-- initializers are the innermost after them
abbrev pub initialize_from : CoreProgram → Meanings → ClassId → ℕ → Option ClassId → List ClassId → Run → Run
initialize_from program m class at outer classes go =
    run_initializers m Null (static_from (class_at program class) at)
    (λ u t. initialize_all program m classes go (with_starting t outer)) (out_of_start class)

-- so many classes from a number on start, and then the load is over
abbrev pub load_from : CoreProgram → Meanings → ℕ → ℕ → Run
load_from program m number zero = Done None
load_from program m number (suc left) =
    start program m (record { 0 = number }) (λ u. load_from program m (suc number) left) no_exits
