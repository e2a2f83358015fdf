-- The constant that `? :` chooses of three, and its type.
use Rattle.std.specs.Prelude.{Bool, Option, Some, None, option_map}
use Rattle.je_core.specs.declared.making.Mark.{Mark}
use Rattle.je_core.specs.declared.types.Base.{Base}
use Rattle.je_core.specs.declared.value.Value.{Value}
use Rattle.je_core.specs.declared.value.Value.TheVariants as value
use Rattle.je_core.specs.Core.{Core, CoreForm, node}
use Rattle.je_typing.specs.Conditionals.{choice_uses, chosen_form, constant_form}
use Rattle.je_typing.specs.Constants.{constant_value}

abbrev pub truth_in : Option Value → Option Bool
truth_in (Some (value.Bool b)) = Some b
truth_in _ = None

-- a node of a form, with the type and spans of the mark
abbrev pub marked : Mark → CoreForm → Core
marked mark form = node form mark.ty mark.span mark.at

abbrev pub marked_if : Mark → Option CoreForm → Option Core
marked_if mark form = option_map (marked mark) form

abbrev pub chosen_of : Option Base → Core → Core → Core → Option CoreForm
chosen_of b c y n = chosen_form (constant_value c) (constant_form b y (choice_uses c y n)) (constant_form b n (choice_uses c y n))
