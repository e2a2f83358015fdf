-- How a report names the rules that a program may break: the letter of the phase, the number there, and a word.
use Rattle.std.specs.Prelude.{ℕ, List, codes}
use Rattle.flow_base.specs.declared.faults.FaultKind.{FaultKind as FlowRule}
use Rattle.flow_base.specs.declared.faults.FaultKind.TheVariants as flow
use Rattle.rule_breaks.specs.declared.rules.ConfinementRule.{ConfinementRule}
use Rattle.rule_breaks.specs.declared.rules.ConfinementRule.TheVariants as confinement
use Rattle.host_text.specs.declared.rules.Rule.{Rule}
use Rattle.host_text.specs.declared.rules.Rule.TheVariants.{Token, Syntax, Name, Typing, Flow, Confinement}
use Rattle.je_lexer.specs.declared.fault.FaultKind.{FaultKind as TokenRule}
use Rattle.je_lexer.specs.declared.fault.FaultKind.TheVariants as token
use Rattle.je_typing.specs.declared.fault.TypeRule.{TypeRule}
use Rattle.je_typing.specs.declared.fault.TypeRule.TheVariants as type
use Rattle.name_faults.specs.declared.faults.FaultKind.{FaultKind as NameRule}
use Rattle.name_faults.specs.declared.faults.FaultKind.TheVariants as name

-- of tokens
abbrev pub said_of_tokens : TokenRule → List ℕ
said_of_tokens token.NotUtf8 = codes "L1 NotUtf8"
said_of_tokens token.BadEscape = codes "L2 BadEscape"
said_of_tokens token.BadChar = codes "L3 BadChar"
said_of_tokens token.OpenComment = codes "L4 OpenComment"
said_of_tokens token.OpenText = codes "L5 OpenText"
said_of_tokens token.BadLiteral = codes "L6 BadLiteral"

-- of names
abbrev pub said_of_names : NameRule → List ℕ
said_of_names name.Twice = codes "N1 Twice"
said_of_names name.Unknown = codes "N2 Unknown"
said_of_names name.Cycle = codes "N3 Cycle"
said_of_names name.NotAccessible = codes "N4 NotAccessible"
said_of_names name.OutOfProfile = codes "N5 OutOfProfile"

-- of types
abbrev pub said_of_types : TypeRule → List ℕ
said_of_types type.BadSuper = codes "T1 BadSuper"
said_of_types type.BadModifier = codes "T2 BadModifier"
said_of_types type.BadBody = codes "T3 BadBody"
said_of_types type.NotAbstract = codes "T4 NotAbstract"
said_of_types type.BadOverride = codes "T5 BadOverride"
said_of_types type.SameErasure = codes "T6 SameErasure"
said_of_types type.BadStatic = codes "T7 BadStatic"
said_of_types type.BadBound = codes "T8 BadBound"
said_of_types type.UnknownName = codes "T9 UnknownName"
said_of_types type.UnknownField = codes "T10 UnknownField"
said_of_types type.NoMethod = codes "T11 NoMethod"
said_of_types type.AmbiguousMethod = codes "T12 AmbiguousMethod"
said_of_types type.NoConstructor = codes "T13 NoConstructor"
said_of_types type.NotAccessible = codes "T14 NotAccessible"
said_of_types type.AmbiguousField = codes "T15 AmbiguousField"
said_of_types type.LocalTwice = codes "T16 LocalTwice"
said_of_types type.NotConvertible = codes "T17 NotConvertible"
said_of_types type.BadOperand = codes "T18 BadOperand"
said_of_types type.BadCast = codes "T19 BadCast"
said_of_types type.BadInstanceOf = codes "T20 BadInstanceOf"
said_of_types type.BadCondition = codes "T21 BadCondition"
said_of_types type.BadIndex = codes "T22 BadIndex"
said_of_types type.BadTarget = codes "T23 BadTarget"
said_of_types type.FinalAssign = codes "T24 FinalAssign"
said_of_types type.StaticContext = codes "T25 StaticContext"
said_of_types type.AbstractNew = codes "T26 AbstractNew"
said_of_types type.NoEnclosing = codes "T27 NoEnclosing"
said_of_types type.NotFinalCapture = codes "T28 NotFinalCapture"
said_of_types type.LiteralRange = codes "T29 LiteralRange"
said_of_types type.BadReturn = codes "T30 BadReturn"
said_of_types type.BadThrow = codes "T31 BadThrow"
said_of_types type.BadCatch = codes "T32 BadCatch"
said_of_types type.BadLabel = codes "T33 BadLabel"
said_of_types type.BadCase = codes "T34 BadCase"
said_of_types type.BadArray = codes "T35 BadArray"
said_of_types type.VoidValue = codes "T36 VoidValue"
said_of_types type.CtorCycle = codes "T37 CtorCycle"
said_of_types type.BadForEach = codes "T38 BadForEach"
said_of_types type.ForwardUse = codes "T39 ForwardUse"
said_of_types type.BadSuperCall = codes "T40 BadSuperCall"

-- of flow
abbrev pub said_of_flow : FlowRule → List ℕ
said_of_flow flow.NotAssigned = codes "F1 NotAssigned"
said_of_flow flow.AssignedTwice = codes "F2 AssignedTwice"
said_of_flow flow.Unreachable = codes "F3 Unreachable"
said_of_flow flow.MissingReturn = codes "F4 MissingReturn"
said_of_flow flow.Unreported = codes "F5 Unreported"

-- of Joe-E
abbrev pub said_of_confinement : ConfinementRule → List ℕ
said_of_confinement confinement.StaticField = codes "V1 StaticField"
said_of_confinement confinement.ImmutableField = codes "V2 ImmutableField"
said_of_confinement confinement.PowerlessField = codes "V3 PowerlessField"
said_of_confinement confinement.SelflessClass = codes "V4 SelflessClass"
said_of_confinement confinement.SelflessEquatable = codes "V5 SelflessEquatable"
said_of_confinement confinement.ThisEscapes = codes "V6 ThisEscapes"
said_of_confinement confinement.CapturedLocal = codes "V7 CapturedLocal"
said_of_confinement confinement.EnclosingObject = codes "V8 EnclosingObject"
said_of_confinement confinement.IdentityComparison = codes "V9 IdentityComparison"
said_of_confinement confinement.ObjectText = codes "V10 ObjectText"
said_of_confinement confinement.NativeMethod = codes "V11 NativeMethod"
said_of_confinement confinement.Finalizer = codes "V12 Finalizer"
said_of_confinement confinement.CatchError = codes "V13 CatchError"
said_of_confinement confinement.Finally = codes "V14 Finally"
said_of_confinement confinement.NotEnabled = codes "V15 NotEnabled"
said_of_confinement confinement.NotExtensible = codes "V16 NotExtensible"

abbrev pub said : Rule → List ℕ
said (Token rule) = said_of_tokens rule
said Syntax = codes "S1 Syntax"
said (Name rule) = said_of_names rule
said (Typing rule) = said_of_types rule
said (Flow rule) = said_of_flow rule
said (Confinement rule) = said_of_confinement rule
