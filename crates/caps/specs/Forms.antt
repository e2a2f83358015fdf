-- Which devices a request is for, and the forms of its answers.
use Rattle.std.specs.Prelude.{ℕ, ℤ, pos, length, Bool, true, false, ◌||◌, nat_le, List, if◌then◌else◌}
use Rattle.std.specs.Ordering.{int_eq}
use Rattle.caps.specs.declared.request.Kind.{Kind}
use Rattle.caps.specs.declared.request.Kind.TheVariants as kind
use Rattle.caps.specs.declared.request.Request.{Request}
use Rattle.caps.specs.declared.request.Request.TheVariants.{Print, GetNumber, SetNumber, Now, Next, GetText, PutText}
use Rattle.caps.specs.declared.request.DeviceAnswer.{DeviceAnswer}
use Rattle.caps.specs.declared.request.DeviceAnswer.TheVariants.{Void, Number, Text, NoText, Refused}

abbrev pub kind_asked : Request → Kind
kind_asked (Print text) = kind.Console
kind_asked GetNumber = kind.Cell
kind_asked (SetNumber number) = kind.Cell
kind_asked Now = kind.Clock
kind_asked Next = kind.Inbox
kind_asked (GetText key) = kind.Store
kind_asked (PutText key text) = kind.Store

abbrev pub is_void : DeviceAnswer → Bool
is_void Void = true
is_void _ = false

abbrev pub is_number : DeviceAnswer → Bool
is_number (Number number) = true
is_number _ = false

-- a text that a device gives has at most 65,536 units
abbrev pub is_small : List ℕ → Bool
is_small text = nat_le (length text) 65536

abbrev pub is_reason : ℤ → ℕ → Bool
is_reason reason n = int_eq reason (pos n)

abbrev pub is_handed_out : DeviceAnswer → Bool
is_handed_out (Text text) = is_small text
is_handed_out (Refused reason) = is_reason reason 1
is_handed_out _ = false

abbrev pub is_kept_text : DeviceAnswer → Bool
is_kept_text (Text text) = is_small text
is_kept_text NoText = true
is_kept_text _ = false

abbrev pub is_keeping : DeviceAnswer → Bool
is_keeping Void = true
is_keeping (Refused reason) = is_reason reason 2 || is_reason reason 3 || is_reason reason 4
is_keeping _ = false

-- the form of an answer, where nothing is told of the state
abbrev pub has_form : Request → DeviceAnswer → Bool
has_form (Print text) answer = is_void answer
has_form GetNumber answer = is_number answer
has_form (SetNumber number) answer = is_void answer
has_form Now answer = is_number answer
has_form Next answer = is_handed_out answer
has_form (GetText key) answer = is_kept_text answer
has_form (PutText key text) answer = is_keeping answer
