-- What contracts see of what headers and signatures are judged by.
use Rattle.std.specs.Prelude.{ℕ, Bool, List, ◌&&◌, nat_eq}
use Rattle.std.specs.List.{list_any}
use Rattle.je_base.specs.declared.span.NameId.{NameId}
use Rattle.class_heads.specs.View.{classes_of}
use Rattle.declarations.specs.Declarations.{type_at}
use Rattle.source_subtypes.specs.View.{heads_of}
use Rattle.type_faults.specs.Program.{source_in}
use Rattle.signature_typing.specs.Signatures.{Setting}
use Rattle.signature_steps.specs.declared.setting.ConstantField.{ConstantField}
use Rattle.signature_steps.specs.declared.setting.Setting.{Setting as Held}

abbrev pub is_among : List ConstantField → ℕ → NameId → Bool
is_among fields c x = list_any (λ (f : ConstantField). nat_eq f.class.0 c && nat_eq f.name.0 x.0) fields

abbrev pub setting_of : Held → Setting
setting_of s = record {
  sites = (source_in s.around.program.now).sites;
  classes = classes_of s.classes;
  heads = heads_of s.around.heads.now;
  means = type_at (source_in s.around.program.now);
  is_constant = is_among s.constants.now;
}
