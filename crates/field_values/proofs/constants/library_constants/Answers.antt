use Rattle.std.proofs.Common.{◌≡◌, length, map, option_map, ap, sym, ◌∙◌, arith}
use Rattle.std.specs.Prelude.{List, slice_get}
use Rattle.std.proofs.lemmas.Grind.{common_steps}
use Rattle.je_core.specs.Core.{CoreField}
use Rattle.je_core.specs.View.{class_view, field_view}
use Rattle.je_core.specs.declared.program.Class.{Class}
use Rattle.je_scopes.specs.Headers.{site_at}
use Rattle.name_lookup.proofs.Tables.{push-each}
use Rattle.name_sites.specs.View.{source_of}
use Rattle.body_places.specs.Tables.{constant_seen, values_in}
use Rattle.class_typing.specs.ConstantFields.{fields_in}
use Rattle.field_values.specs.way.Library.{constants_due}
use Rattle.field_values.proofs.Library.{fields_there, library_is}
use Rattle.field_values.proofs.constants.library_constants.Goals as goal

pub loop-at-preserved : goal.loop-at-preserved
loop-at-preserved c = record {
  whole = grind (arith, common_steps, c.in_ok-push.ensures.items, c.loop-at.invariant.whole);
  each = λ d l. ap (λ ls. map (option_map constant_seen) (values_in (slice_get ls d))) c.in_ok-push.ensures.items
      ∙ push-each (λ n o. map (option_map constant_seen) (values_in o)
      ≡ constants_due (site_at (source_of c.args.sites.now).sites n).written (fields_in (slice_get (map class_view c.args.library.now) n)))
      c.loop-at.all.items _ c.loop-at.at c.loop-at.invariant.whole c.loop-at.invariant.each
      (c.in_ok-library_constants_of.ensures
      ∙ ap (λ (fs : List CoreField). constants_due (site_at (source_of c.args.sites.now).sites c.loop-at.at).written fs)
      (ap (map field_view) c.deref.ensures.value ∙ ap (λ (k : Class). map field_view k.fields.items) c.index-library-at.is
      ∙ sym (fields_there c.args.library.now c.loop-at.at c.index-library-at.result c.loop-at-test.true))) d l;
}

pub returns : goal.returns
returns c =
    let n : c.loop-at.at ≡ length c.args.library.now = omega arith in
    library_is (source_of c.args.sites.now) c.args.library.now c.loop-at.all.items c.requires (c.loop-at.invariant.whole ∙ n)
    (λ d l. c.loop-at.invariant.each d (omega (arith, l, n)))
