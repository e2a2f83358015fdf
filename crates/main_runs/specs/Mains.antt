-- The `main` of a program (JLS 12.1.4, but that it replies an int and has no parameters), and what its run comes to.
use Rattle.std.specs.Prelude.{ℕ, suc, Bool, false, ◌&&◌, nat_eq, List, [], ◌∷◌, length, Option, Some, None, option_and_then, codes, if◌then◌else◌}
use Rattle.std.specs.Str.{bytes_eq}
use Rattle.je_base.specs.Names.{text_of}
use Rattle.je_core.specs.Core.{CoreMethod, CoreProgram}
use Rattle.je_core.specs.declared.types.Base.TheVariants as base
use Rattle.je_core.specs.declared.types.ClassId.{ClassId}
use Rattle.je_core.specs.declared.types.Ty.{Ty}
use Rattle.je_table.specs.Library.{classes}
use Rattle.je_classes.specs.Members.{methods_of}
use Rattle.je_classes.specs.Subtypes.{same_type}
use Rattle.je_java.specs.declared.call.Receiver.TheVariants as receiver
use Rattle.machine_parts.specs.declared.frame.Call.{Call}
use Rattle.je_interp.specs.declared.running.RunEnd.{RunEnd}
use Rattle.je_interp.specs.Runs.{run}

-- the first class of the source, in the order of the names in the text: the library's classes stand before it
unfoldable pub first_class : ClassId
first_class = record { 0 = length classes }

abbrev pub is_text : List ℕ → Option (List ℕ) → Bool
is_text word None = false
is_text word (Some text) = bytes_eq text word

abbrev pub int : Ty
int = record { base = base.Int; dims = 0 }

-- `static int main()`
abbrev pub is_main : List (List ℕ) → CoreMethod → Bool
is_main names method =
    method.flags.is_static && (nat_eq (length method.params) 0 && (same_type method.returns int && is_text (codes "main") (text_of names method.name)))

-- the number of the first of some methods that is one, where these stand from a number on
abbrev pub main_from : List (List ℕ) → ℕ → List CoreMethod → Option ℕ
main_from names number [] = None
main_from names number (method ∷ methods) = if is_main names method then Some number else main_from names (suc number) methods

-- the number of the first class's `main`, where there is such a class and it has one
abbrev pub main_of : List (List ℕ) → CoreProgram → Option ℕ
main_of names program = main_from names 0 (methods_of program first_class)

abbrev pub main_units : ℕ
main_units = 1000000

-- its call
abbrev pub main_call : ℕ → Call
main_call number = record { class = first_class; method = number; receiver = receiver.None; args = [] }

-- its run: a load without devices, and then the call with 1,000,000 units
abbrev pub run_of : CoreProgram → ℕ → Option RunEnd
run_of program number = run program [] main_units (main_call number)

-- the run of the `main` of a program, where it has one
abbrev pub main_run : List (List ℕ) → CoreProgram → Option RunEnd
main_run names program = option_and_then (run_of program) (main_of names program)
