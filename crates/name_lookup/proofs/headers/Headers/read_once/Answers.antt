use Rattle.std.proofs.Common.{◌≡◌, ◌<◌, ◌≤◌, true, false, None, refl, sym, ap, ◌∙◌, subst, arith}
use Rattle.je_scopes.specs.Laws.{header_of}
use Rattle.je_scopes.proofs.Either.{by_either, nat_split}
use Rattle.name_sites.specs.View.{source_of}
use Rattle.name_lookup.specs.View.{known_of, unknown_count}
use Rattle.name_lookup.proofs.headers.Headers.read_once.Goals as goal
use Rattle.name_lookup.proofs.headers.Headers.read_once.Goals.{then-branch, else-branch}

pub loop-at-preserved : goal.loop-at-preserved
loop-at-preserved c = elim c.if-branch.branch [
  | then-branch w ↦
      let f : unknown_count c.read_header.new.self < unknown_count c.loop-at.self = c.in_ok-read_header.ensures.fewer w.if-branch.true in
      let m : unknown_count c.loop-at.self ≤ unknown_count c.args.self.now = c.loop-at.invariant.no_more in
      record {
        settling = c.in_ok-read_header.ensures.settling;
        no_more = omega (arith, f, m);
        fewer = λ e. omega (arith, f, m);
        rest = λ e. absurd (let t = w.changed-is in cc);
      }
  | else-branch w ↦
      let s : c.read_header.new.self ≡ c.loop-at.self = c.in_ok-read_header.ensures.same w.if-branch.false in
      let u : unknown_count c.read_header.new.self ≡ unknown_count c.loop-at.self = ap unknown_count s in
      let m : unknown_count c.loop-at.self ≤ unknown_count c.args.self.now = c.loop-at.invariant.no_more in
      record {
        settling = c.in_ok-read_header.ensures.settling;
        no_more = omega (arith, u, m);
        fewer = λ e. let f : unknown_count c.loop-at.self < unknown_count c.args.self.now = c.loop-at.invariant.fewer (sym w.changed-is ∙ e) in omega (arith, u, f);
        rest = λ e d l k. subst (λ h. header_of (source_of c.args.sites.now) (known_of h) d ≡ None) (sym s)
            (let k' : known_of c.loop-at.self d ≡ None = subst (λ h. known_of h d ≡ None) s k in
            by_either
            (λ (q : d ≡ c.loop-at.at). subst (λ n. header_of (source_of c.args.sites.now) (known_of c.loop-at.self) n ≡ None) (sym q)
            (c.in_ok-read_header.ensures.waits w.if-branch.false (subst (λ n. known_of c.loop-at.self n ≡ None) q k')))
            (λ q. c.loop-at.invariant.rest (sym w.changed-is ∙ e) d q k')
            (nat_split d c.loop-at.at (omega (arith, l))));
      }
]

pub loop-at-init : goal.loop-at-init
loop-at-init c = record {
  settling = c.requires.settling;
  no_more = omega arith;
  fewer = λ e. absurd (cc);
  rest = λ _ d l. absurd (omega (arith, l));
}

pub returns : goal.returns
returns c = record {
  settling = c.loop-at.invariant.settling;
  fewer = c.loop-at.invariant.fewer;
  rest = λ e d l. c.loop-at.invariant.rest e d (omega (arith, l, c.loop-at-test.false, c.len-at-end.ensures.count));
}
