use Rattle.std.proofs.Common.{List, map, sym, ap, ◌∙◌}
use Rattle.std.proofs.lemmas.List.{drop-map}
use Rattle.declarations.specs.Declarations.{DeclaredField}
use Rattle.declarations.specs.View.{class_shown, field_shown}
use Rattle.program_tables.proofs.listing.remove_first.Goals as goal

pub returns : goal.returns
returns c =
    ap (λ (fs : List DeclaredField). record (class_shown c.args.class.now) { fields = fs })
    (ap (map field_shown) c.drop_first.ensures ∙ sym (drop-map field_shown c.args.count c.args.class.now.fields.items))
