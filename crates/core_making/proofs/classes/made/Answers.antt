use Rattle.std.proofs.Common.{rules, ◌≡◌, List, ◌++◌, map, sym, ap, ◌∙◌}
use Rattle.std.specs.Prelude.{option_map}
use Rattle.std.proofs.lemmas.List.{length-map}
use Rattle.je_core.specs.Core.{CoreField}
use Rattle.je_core.specs.View.{initializer_view, method_view, view}
use Rattle.je_scopes.specs.Headers.{is_interface_sort, span_in}
use Rattle.class_typing.specs.Classes.{classes_of_types, interfaces_if, superclass_if}
use Rattle.declarations.specs.View.{field_shown}
use Rattle.body_places.specs.View.{program_seen}
use Rattle.core_making.specs.Known.{captured_local_seen}
use Rattle.core_making.specs.way.Made.{fields_from}
use Rattle.core_making.proofs.Numbers.{numbered}
use Rattle.core_making.proofs.classes.made.Goals as goal

pub returns : goal.returns
returns c =
    let is_interface = c.is_interface_sort-is_interface.ensures ∙ ap is_interface_sort c.sort.ensures in
    let above = c.in_ok-above.ensures ∙ ap classes_of_types c.supers.ensures in
    let for_interfaces : c.deref.result.now ≡ c.in_ok-above.above.items = search rules in
    let for_superclass : c.deref-2.result.now ≡ c.in_ok-above.above.items = search rules in
    (λ i. record {
      name = c.name_of.ensures i;
      span = (c.written_span.ensures ∙ ap span_in c.written.ensures) i;
      kind = c.kind_of.ensures i;
      superclass = (c.superclass_of.ensures ∙ (λ j. superclass_if (is_interface j) ((for_superclass ∙ above) j))) i;
      interfaces = (c.in_ok-interfaces.ensures ∙ (λ j. interfaces_if (is_interface j) ((for_interfaces ∙ above) j))) i;
      heads = c.in_ok-heads.ensures i;
      fields = (c.in_ok-add_declared.ensures
          ∙ ap (λ (fs : List CoreField). fs ++ fields_from (program_seen c.args.making.program)
          (map field_shown c.args.parts.declared.now) (map (option_map view) c.args.parts.constants.items)) c.in_ok-fields.ensures) i;
      initializers = map initializer_view c.args.parts.initializers.items;
      methods = map method_view c.args.parts.methods.items;
      enclosing = numbered _ _ c.enclosing.ensures i;
      captured = (c.in_ok-captured.ensures ∙ sym (length-map c.args.parts.captured.now captured_local_seen)) i;
      within = numbered _ _ c.outside.ensures.within i;
      nth = c.args.parts.nth;
      top = record { 0 = c.top_of.ensures i };
      bridges = c.args.parts.bridges.items;
    })
