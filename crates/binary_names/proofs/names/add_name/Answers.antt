use Rattle.std.proofs.Common.{◌≡◌, ℕ, ◌<◌, List, [], ◌∷◌, ◌++◌, Option, length, get_or, ap, ◌∙◌, arith}
use Rattle.std.proofs.lemmas.Result.{IfOk-weaker}
use Rattle.je_core.specs.declared.types.ClassId.{ClassId}
use Rattle.je_scopes.specs.Headers.{site_at}
use Rattle.je_scopes.specs.BinaryNames.{binary_name}
use Rattle.name_walk.specs.View.{round_from}
use Rattle.name_sites.specs.Number.{number_in}
use Rattle.name_sites.specs.View.{source_of}
use Rattle.name_sites.proofs.ImportSteps.{on_ok}
use Rattle.binary_names.specs.Names.{AreNamed}
use Rattle.binary_names.specs.Texts.{IsText}
use Rattle.binary_names.proofs.Naming.{top_named, inner_named, stays_on}
use Rattle.binary_names.proofs.names.add_name.Goals as goal

pub returns-in_default-clause-text : goal.returns-in_default-clause-text
returns-in_default-clause-text c =
    let round : (site_at (source_of c.args.sites.now).sites c.args.class.0).spot.round ≡ [] =
    c.outside.ensures.round ∙ ap (λ (w : Option ClassId). round_from (source_of c.args.sites.now).sites (number_in w)) c.in_default.is in
    IfOk-weaker c.extended.result (λ n. (t : List ℕ) → IsText c.args.texts.now 0 t → IsText c.extended.new.self n (t ++ c.as_bytes.result.now))
    (λ n. IsText c.extended.new.self n (binary_name (source_of c.args.sites.now) c.args.class.0))
    (λ n. top_named (source_of c.args.sites.now) c.args.class.0 c.as_bytes.result.now (c.as_bytes.ensures.value ∙ c.simple_name-simple.ensures) c.args.texts.now c.extended.new.self n round) c.extended.ensures.text

pub returns-clause-stays : goal.returns-clause-stays
returns-clause-stays c = on_ok c.extended-3.result (stays_on c.args.texts.now c.extended-2.new.self c.add_number.new.texts c.extended-3.new.self c.in_ok-outer.ensures.stays c.in_ok-numbered.ensures.stays) c.extended-3.ensures.stays

pub returns-clause-text : goal.returns-clause-text
unfolding AreNamed
returns-clause-text c =
    let d : ℕ = c.in-Some.round.0 in
    let round : (site_at (source_of c.args.sites.now).sites c.args.class.0).spot.round ≡ d ∷ (site_at (source_of c.args.sites.now).sites d).spot.round =
    c.outside.ensures.round ∙ ap (λ (w : Option ClassId). round_from (source_of c.args.sites.now).sites (number_in w)) c.in-Some.is in
    let l : d < c.args.class.0 = c.outside.ensures.earlier d (ap number_in c.in-Some.is) in
    let h : d < length c.args.names.now = omega (arith, l, c.requires.earlier) in
    IfOk-weaker c.extended-3.result (λ n. (t : List ℕ) → IsText c.add_number.new.texts c.in_ok-numbered.numbered t → IsText c.extended-3.new.self n (t ++ c.as_bytes-2.result.now))
    (λ n. IsText c.extended-3.new.self n (binary_name (source_of c.args.sites.now) c.args.class.0))
    (λ n. inner_named (source_of c.args.sites.now) c.args.class.0 c.as_bytes-2.result.now (c.as_bytes-2.ensures.value ∙ c.simple_name-simple.ensures) d c.args.texts.now c.extended-2.new.self c.add_number.new.texts c.extended-3.new.self
    (get_or c.args.names.now d 0) c.in_ok-outer.outer c.in_ok-numbered.numbered n round (c.requires.named d h) c.in_ok-outer.ensures.text c.in_ok-numbered.ensures.text)
    c.extended-3.ensures.text
