-- What a class's members do is what they do with a receiver, apart from those without one.
use Rattle.std.proofs.Common.{◌≡◌, ℕ, List, refl}
use Rattle.je_core.specs.Core.{CoreProgram}
use Rattle.je_core.specs.declared.types.ClassId.{ClassId}
use Rattle.je_core.specs.declared.value.Value.{Value}
use Rattle.je_java.specs.Steps.{Exits, Run, State}
use Rattle.je_java.specs.library.Builders.{builder_member}
use Rattle.je_java.specs.library.RowObjects.{row_member}
use Rattle.je_java.specs.library.Strings.{string_member}
use Rattle.tamed_lib.specs.way.Receivers.{by_signature, on_builder, on_receiver, on_row, on_row_receiver, on_string, on_text, row_by_signature, text_by_signature}

pub builder_member_is : (program : CoreProgram) (signature : List ℕ) (this : Value) (given : List Value) (go : Value → Run) (exits : Exits) (s : State) →
    by_signature program signature this given go exits s ≡ builder_member program signature this given go exits s
unfolding builder_member on_builder on_receiver
builder_member_is program signature this given go exits s = refl

pub string_member_is : (program : CoreProgram) (signature : List ℕ) (this : Value) (given : List Value) (go : Value → Run) (exits : Exits) (s : State) →
    text_by_signature program signature this given go exits s ≡ string_member program signature this given go exits s
unfolding string_member on_string on_text
string_member_is program signature this given go exits s = refl

pub row_member_is : (program : CoreProgram) (class : ClassId) (signature : List ℕ) (this : Value) (given : List Value) (go : Value → Run) (exits : Exits) (s : State) →
    row_by_signature program class signature this given go exits s ≡ row_member program class signature this given go exits s
unfolding row_member on_row on_row_receiver
row_member_is program class signature this given go exits s = refl
