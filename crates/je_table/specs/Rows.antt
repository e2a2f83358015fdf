-- What the rows of the tables say, without the references in them.
use Rattle.std.specs.Prelude.{ℕ, Bool, List, Option, option_map}
use Rattle.je_table.specs.Library.{Class, Member, class_row, signature_of}
use Rattle.je_table.specs.declared.classes.ClassRow.{ClassRow}
use Rattle.je_table.specs.declared.members.CostKind.{CostKind}
use Rattle.je_table.specs.declared.members.MemberRow.{MemberRow}
use Rattle.je_table.specs.declared.types.RowType.{RowType}

abbrev pub class_said : ClassRow → Class
class_said row =
    record { name = row.name.now; is_interface = row.is_interface; is_final = row.is_final; bound = row.bound; supers = row.supers.now; markers = row.markers }

-- a member with its class's full name and its signature written out
pub record Row : Type 0 where
  pub class : List ℕ
  pub signature : List ℕ
  pub name : List ℕ
  pub parameters : Option (List RowType)
  pub returns : RowType
  pub is_static : Bool
  pub tame : Bool
  pub cost : CostKind

abbrev pub row_of : Member → Row
row_of m =
    record { class = (class_row m.class).name; signature = signature_of m; name = m.name; parameters = m.parameters; returns = m.returns; is_static = m.is_static; tame = m.tame; cost = m.cost }

abbrev pub row_said : MemberRow → Row
row_said row =
    record { class = row.class.now; signature = row.signature.now; name = row.name.now; parameters = option_map (λ types. types.now) row.parameters; returns = row.returns; is_static = row.is_static; tame = row.tame; cost = row.cost }
