-- What the making of arrays comes to.
use Rattle.std.specs.Prelude.{◌≡◌, ℕ, List}
use Rattle.je_core.specs.declared.types.Ty.{Ty}
use Rattle.je_core.specs.declared.value.Value.{Value}
use Rattle.je_core.specs.Core.{CoreProgram}
use Rattle.je_heap.specs.Contents.{Contents}
use Rattle.je_java.specs.Steps.{State, Outside, Own, Run, Exits, Computation, ret, wrong, raise}
use Rattle.je_java.specs.Raised.{negative_size}
use Rattle.je_java.specs.Arrays.{count_of, counts_of, nested}
use Rattle.machine_parts.specs.Ways.{state_of}
use Rattle.machine_forms.specs.declared.array.Length.{Length}
use Rattle.machine_forms.specs.declared.array.Length.TheVariants.{Count, BelowZero as NegativeLength, Wrong as NoLength}
use Rattle.machine_forms.specs.declared.array.Lengths.{Lengths}
use Rattle.machine_forms.specs.declared.array.Lengths.TheVariants.{Counts, BelowZero, Wrong}

-- how a run goes on with what a length came to
abbrev pub length_ways : CoreProgram → Length → Computation ℕ
length_ways program (Count count) = ret count
length_ways program NegativeLength = raise program negative_size
length_ways program NoLength = wrong

-- the value came to that as a length
abbrev pub IsLength : Value → Length → Type 0
IsLength value found = (p : CoreProgram) → length_ways p found ≡ count_of p value

-- how a run goes on with what some lengths came to
abbrev pub counted_ways : CoreProgram → Lengths → Computation (List ℕ)
counted_ways program (Counts counts) = ret counts.items
counted_ways program BelowZero = raise program negative_size
counted_ways program Wrong = wrong

-- the values came to that as lengths
abbrev pub Counted : List Value → Lengths → Type 0
Counted values found = (p : CoreProgram) (go : List ℕ → Run) (exits : Exits) (s : State) →
    counted_ways p found go exits s ≡ counts_of p values go exits s

-- the arrays of some lengths were made, and the value is the outermost one
abbrev pub Nests : Contents → Contents → Ty → List ℕ → Value → Type 0
Nests before after ty counts value = (go : Value → Run) (exits : Exits) (units begun : ℕ) (outside : Outside) (own : Own) →
    go value (state_of units begun after outside own) ≡ nested ty counts go exits (state_of units begun before outside own)
