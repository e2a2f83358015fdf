-- Lengths and elements, one after the other.
use Rattle.std.proofs.Common.{◌≡◌, List, [], ◌∷◌, ◌++◌, length, map, refl, sym, ap, ◌∙◌}
use Rattle.std.proofs.lemmas.List.{map-append}
use Rattle.std.specs.declared.rc.Rc.{Rc}
use Rattle.std.specs.declared.alloc.Global.{Global}
use Rattle.je_core.specs.declared.expr.Expr.{Expr}
use Rattle.je_core.specs.Core.{Core}
use Rattle.je_core.specs.View.{view, views}
use Rattle.je_scopes.specs.SourceTypes.{SourceType}
use Rattle.source_types.specs.Heads.{ClassHead}
use Rattle.je_typing.specs.declared.fault.Refusal.{Refusal}
use Rattle.je_typing.specs.Answers.{IsFault}
use Rattle.je_typing.specs.Arrays.{Part, elements_from, int_index, lengths_from}
use Rattle.je_typing.specs.Conversions.{assigned}
use Rattle.je_typing.specs.Judged.{gives}
use Rattle.je_typing.proofs.Walks.{bind_gives, bind_faults}
use Rattle.source_subtypes.proofs.Climbing.{length-mapped}
use Rattle.operator_steps.specs.declared.part.Part.{Part as PartExpr}
use Rattle.operator_steps.specs.Parts.{part_seen}

pub length_more : (done : List Core) (p : Part) (ps : List Part) (n : Core) → int_index p.span p.value ≡ gives n →
    lengths_from done (p ∷ ps) ≡ lengths_from (done ++ n ∷ []) ps
unfolding lengths_from
length_more done p ps n e = bind_gives (int_index p.span p.value) (λ (k : Core). lengths_from (done ++ k ∷ []) ps) n e

pub length_pushed : (done : List (Rc Expr Global)) (e : Rc Expr Global) (p : Part) (ps : List Part) → int_index p.span p.value ≡ gives (view e.value) →
    lengths_from (views (done ++ e ∷ [])) ps ≡ lengths_from (views done) (p ∷ ps)
length_pushed done e p ps h =
    ap (λ (ds : List Core). lengths_from ds ps) (map-append (λ (x : Rc Expr Global). view x.value) done (e ∷ []))
    ∙ sym (length_more (views done) p ps (view e.value) h)

pub length_faulty : (done : List Core) (p : Part) (ps : List Part) (r : Refusal) → IsFault (int_index p.span p.value) r →
    IsFault (lengths_from done (p ∷ ps)) r
unfolding lengths_from
length_faulty done p ps r h = bind_faults (int_index p.span p.value) (λ (k : Core). lengths_from (done ++ k ∷ []) ps) r h

pub lengths_done : (done : List Core) → lengths_from done [] ≡ gives done
unfolding lengths_from
lengths_done done = refl

pub ruleset lengths = (length_more, length_faulty, lengths_done)

pub element_more : (heads : List ClassHead) (t : SourceType) (done : List Core) (p : Part) (ps : List Part) (n : Core) → assigned heads t p.span p.value ≡ gives n →
    elements_from heads t done (p ∷ ps) ≡ elements_from heads t (done ++ n ∷ []) ps
unfolding elements_from
element_more heads t done p ps n e = bind_gives (assigned heads t p.span p.value) (λ (k : Core). elements_from heads t (done ++ k ∷ []) ps) n e

pub element_pushed : (heads : List ClassHead) (t : SourceType) (done : List (Rc Expr Global)) (e : Rc Expr Global) (p : Part) (ps : List Part) → assigned heads t p.span p.value ≡ gives (view e.value) →
    elements_from heads t (views (done ++ e ∷ [])) ps ≡ elements_from heads t (views done) (p ∷ ps)
element_pushed heads t done e p ps h =
    ap (λ (ds : List Core). elements_from heads t ds ps) (map-append (λ (x : Rc Expr Global). view x.value) done (e ∷ []))
    ∙ sym (element_more heads t (views done) p ps (view e.value) h)

pub element_faulty : (heads : List ClassHead) (t : SourceType) (done : List Core) (p : Part) (ps : List Part) (r : Refusal) → IsFault (assigned heads t p.span p.value) r →
    IsFault (elements_from heads t done (p ∷ ps)) r
unfolding elements_from
element_faulty heads t done p ps r h = bind_faults (assigned heads t p.span p.value) (λ (k : Core). elements_from heads t (done ++ k ∷ []) ps) r h

pub elements_done : (heads : List ClassHead) (t : SourceType) (done : List Core) → elements_from heads t done [] ≡ gives done
unfolding elements_from
elements_done heads t done = refl

pub ruleset elements = (element_more, element_faulty, elements_done)

pub part_count : (ps : List PartExpr) → length ps ≡ length (map part_seen ps)
part_count ps = sym (length-mapped part_seen ps)
