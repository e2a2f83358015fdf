use Rattle.std.proofs.Common.{ℕ, ◌<◌, List, [], ◌∷◌, ◌++◌, get_or, take, sym, ap, subst, ◌∙◌, append_assoc, length, arith}
use Rattle.std.proofs.lemmas.List.{append-nil, take_more}
use Rattle.binary_names.specs.Texts.{IsText, Stays}
use Rattle.binary_names.proofs.texts.Texts.extended.Goals as goal

pub loop-byte-init : goal.loop-byte-init
unfolding Stays
loop-byte-init c = record {
  stays = λ n t h. h;
  text = λ t h. subst (IsText c.args.self.now c.args.text) (sym (append-nil t)) h;
}

pub loop-byte-preserved : goal.loop-byte-preserved
unfolding Stays
loop-byte-preserved c = record {
  stays = λ n t h. c.in_ok-end.ensures.stays n t (c.loop-byte.invariant.stays n t h);
  text = λ t h.
      let b : ℕ = get_or c.args.bytes.now c.loop-byte.byte-index 0 in
      let l : c.loop-byte.byte-index < length c.args.bytes.now = omega arith in
      subst (IsText c.longer.new.self c.in_ok-end.end)
      (append_assoc t (take c.loop-byte.byte-index c.args.bytes.now) (b ∷ []) ∙ ap (λ (k : List ℕ). t ++ k) (sym (take_more c.args.bytes.now c.loop-byte.byte-index 0 l)))
      (c.in_ok-end.ensures.text (t ++ take c.loop-byte.byte-index c.args.bytes.now) (c.loop-byte.invariant.text t h));
}
