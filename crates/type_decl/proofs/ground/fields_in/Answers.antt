use Rattle.std.proofs.Common.{◌≡◌, ap, sym, ◌∙◌}
use Rattle.field_values.specs.Values.{count_at, value_at}
use Rattle.program_tables.specs.Known.{captured_seen}
use Rattle.class_typing.specs.ConstantFields.{field_value}
use Rattle.class_typing.specs.Elaboration.{hidden_count}
use Rattle.name_sites.specs.View.{source_of}
use Rattle.type_faults.specs.Program.{source_in}
use Rattle.type_decl.proofs.Beginning.{counted_at}
use Rattle.type_decl.proofs.ground.fields_in.Goals as goal

pub returns : goal.returns
returns c =
    let hidden : count_at c.in_ok-hidden.hidden.items ≡ hidden_count (source_of c.args.sites.now) (captured_seen c.args.layout.captured.now) =
    λ i. λ d. (counted_at c.in_ok-hidden.hidden.items d ∙ c.in_ok-hidden.ensures.each d
    ∙ ap (λ s. hidden_count s (captured_seen c.args.layout.captured.now) d) (sym c.requires)) i in
    record {
      hidden_are = hidden;
      values_are = λ p e. c.in_ok-values.ensures p e ∙ ap (field_value p) (ap count_at c.deref.ensures.value ∙ hidden);
      blank_are = λ p e. c.in_ok-blank.ensures p (hidden_count (source_of c.args.sites.now) (captured_seen c.args.layout.captured.now))
          (ap value_at c.deref-2.ensures.value ∙ c.in_ok-values.ensures p e ∙ ap (field_value p) (ap count_at c.deref.ensures.value ∙ hidden));
    }
