-- What waits for the texts of a string concatenation: each is the rest of one, behind a text (JLS 15.18.1, 15.26.2).
use Rattle.std.specs.Prelude.{ℕ, List, ◌++◌}
use Rattle.je_core.specs.declared.value.Value.{Value}
use Rattle.je_core.specs.declared.value.Value.TheVariants.{Ref}
use Rattle.je_core.specs.Core.{CoreForm, Update, CoreProgram, form_of}
use Rattle.je_core.specs.View.{form_view}
use Rattle.je_java.specs.Steps.{Computation, ret, wrong, yields, ◌>>=◌, make_text}
use Rattle.je_java.specs.Texts.{units_told, text_of}
use Rattle.je_java.specs.Meaning.{Meanings, to_string, given, stored}
use Rattle.machine_parts.specs.declared.frame.Sum.{Sum}
use Rattle.machine_parts.specs.declared.frame.Sum.TheVariants.{Given, Stored}
use Rattle.machine_parts.specs.declared.frame.Told.{Told}
use Rattle.machine_parts.specs.declared.frame.Told.TheVariants.{Left, Right}

-- a compound assignment puts a value into its place
abbrev pub put_by : CoreProgram → CoreForm → Value → Value → Value → Value → Computation Value
put_by program (Update place op operand gives_old) object index old value =
    yields (given gives_old old value) (stored program (form_of place) object index value)
put_by program _ object index old value = wrong

-- a new string, and what becomes of it
abbrev pub summed : CoreProgram → Sum → List ℕ → Computation Value
summed program Given units = do
  text ← make_text units
  ret (Ref text)
summed program (Stored node object index old) units = do
  text ← make_text units
  put_by program (form_view node.value.form) object index old (Ref text)

-- the right operand comes to its text behind that of the left one
abbrev pub text_behind : CoreProgram → Meanings → Sum → List ℕ → Value → Computation Value
text_behind program m sum front right = do
  back ← text_of (to_string program m) right
  summed program sum (front ++ back)

-- both operands come to their texts
abbrev pub texts_of : CoreProgram → Meanings → Sum → Value → Value → Computation Value
texts_of program m sum left right = do
  front ← text_of (to_string program m) left
  text_behind program m sum front right

-- how it goes on with what a `toString()` gave
abbrev pub told_by : CoreProgram → Meanings → Told → Value → Computation Value
told_by program m (Left right sum) told = do
  front ← units_told told
  text_behind program m sum front right
told_by program m (Right front sum) told = do
  back ← units_told told
  summed program sum (front ++ back)
