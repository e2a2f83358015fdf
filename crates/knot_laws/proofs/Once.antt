-- Two trees that spell the same tokens are equal, whatever follows.
use Rattle.std.proofs.Common.{◌≡◌, List, [], ◌++◌, refl, sym, subst}
use Rattle.std.proofs.lemmas.List.{append_cancel_right}
use Rattle.je_token.specs.declared.token.Token.{Token}
use Rattle.knot_laws.specs.Laws.{SpellsOnce}
use Rattle.knot_laws.proofs.Cuts.{Cut}

-- what spells tokens up to a rest spells them alone
alone : {T : Type 0} (spells : T → List Token → List Token → Type 0) (t : T) (front rest : List Token) → Cut rest (spells t) (front ++ rest) [] → spells t front []
alone spells t front rest c = subst (λ (us : List Token). spells t us []) (sym (append_cancel_right front c.front rest c.whole)) c.spelled

pub once_by : {T : Type 0} (spells : T → List Token → List Token → Type 0) → ((tail : List Token) (t : T) (ts rest r : List Token) → spells t ts rest → rest ≡ r ++ tail → Cut tail (spells t) ts r) →
    ((t u : T) (ts : List Token) → spells t ts [] → spells u ts [] → t ≡ u) → SpellsOnce spells
once_by spells cut whole t u front rest other d e =
    whole t u front (alone spells t front rest (cut rest t _ rest [] d refl)) (alone spells u front other (cut other u _ other [] e refl))
