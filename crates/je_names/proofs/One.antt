-- Scopes are given by equations, so two of one program are alike; and they say that there is no fault.
use Rattle.std.proofs.Common.{sym, ◌∙◌}
use Rattle.je_names.specs.Laws.{ScopesAreOne, NoScopesBesideAFault}

pub scopes_one : ScopesAreOne
scopes_one p s t a b = record { sources = a.source ∙ sym b.source; headers = sym a.headers ∙ b.headers; classes = a.classes ∙ sym b.classes }

pub no_scopes : NoScopesBesideAFault
no_scopes p s fault a refused = absurd (let e = sym a.faultless ∙ refused in cc)
