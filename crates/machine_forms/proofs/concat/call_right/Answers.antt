use Rattle.std.proofs.Common.{List, sym, ap, ◌∙◌}
use Rattle.je_core.specs.View.{program_view}
use Rattle.machine_parts.specs.declared.frame.Env.{Env}
use Rattle.machine_parts.specs.declared.frame.Frame.{Frame}
use Rattle.machine_parts.specs.declared.frame.Told.{Told}
use Rattle.machine_parts.specs.declared.frame.Told.TheVariants.{Right}
use Rattle.machine_parts.specs.Telling.{told_by}
use Rattle.machine_parts.specs.Ways.{own_of, waits, valued, state, state_of}
use Rattle.machine_parts.proofs.Results.{if_ok-map}
use Rattle.je_java.specs.Steps.{ret, throw, spent, wrong, bind}
use Rattle.je_java.specs.Meaning.{to_string}
use Rattle.machine_forms.specs.declared.library.Ran.TheVariants as ran
use Rattle.machine_forms.specs.declared.telling.Telling.{Telling}
use Rattle.machine_forms.specs.declared.telling.Telling.TheVariants.{Body, Library}
use Rattle.machine_forms.specs.way.Calling.{telling_ways}
use Rattle.machine_forms.proofs.Joining.{told_on}
use Rattle.machine_forms.proofs.concat.call_right.Goals as goal

pub returns-in-Body-clause-goes : goal.returns-in-Body-clause-goes
unfolding bind
returns-in-Body-clause-goes c = if_ok-map c.enter_telling.result (λ control goes m k outside.
    let p = program_view c.args.program.now in
    let before = c.args.context.now in
    let made = c.tell.new.context in
    let here = state made c.tell.new.heap outside in
    let told : Told = Right c.args.front c.args.sum in
    let telling = Body c.in-Body.own c.in-Body.ends c.in-Body.body in
    goes p m k c.tell.new.heap outside
    ∙ ap (λ (fs : List Frame). telling_ways m telling (λ v. valued (told_by p m told v) (waits p m k fs)) (waits p m k fs).out here) c.in_ok-own.ensures.frames
    ∙ told_on p m c.args.object (telling) (told_by p m told) (waits p m k before.frames) (state before c.args.heap.now outside) here
    (λ go exits. ap (λ (t : Telling). telling_ways m t go exits here) (sym c.in-Body.is)
    ∙ c.in_ok-own.ensures.goes m go exits outside (own_of made.env)
    ∙ ap (λ (e : Env). to_string p m c.args.object go exits (state_of before.units before.begun c.args.heap.now outside (own_of e))) c.in_ok-own.ensures.env)) c.enter_telling.ensures.goes

pub returns-in-Value-clause-goes : goal.returns-in-Value-clause-goes
unfolding bind ret
returns-in-Value-clause-goes c = if_ok-map c.tell_right.result (λ control goes m k outside.
    let p = program_view c.args.program.now in
    let before = c.args.context.now in
    let made = c.tell.new.context in
    let here = state made c.tell.new.heap outside in
    let told : Told = Right c.args.front c.args.sum in
    goes m k outside
    ∙ ap (λ (fs : List Frame). valued (told_by p m told c.in-Value.value) (waits p m k fs) here) c.in_ok-own.ensures.frames
    ∙ told_on p m c.args.object (Library (ran.Value c.in-Value.value)) (told_by p m told) (waits p m k before.frames) (state before c.args.heap.now outside) here
    (λ go exits. ap (λ (t : Telling). telling_ways m t go exits here) (sym (c.in-Library.is ∙ ap Library c.in-Value.is))
    ∙ c.in_ok-own.ensures.goes m go exits outside (own_of made.env)
    ∙ ap (λ (e : Env). to_string p m c.args.object go exits (state_of before.units before.begun c.args.heap.now outside (own_of e))) c.in_ok-own.ensures.env)) c.tell_right.ensures.goes

pub returns-in-Throws-clause-goes : goal.returns-in-Throws-clause-goes
unfolding bind throw
returns-in-Throws-clause-goes c = λ m k outside.
    let p = program_view c.args.program.now in
    let before = c.args.context.now in
    let made = c.tell.new.context in
    let here = state made c.tell.new.heap outside in
    let told : Told = Right c.args.front c.args.sum in
    ap (λ (fs : List Frame). (waits p m k fs).out.throw c.in-Throws.exception here) c.in_ok-own.ensures.frames
    ∙ told_on p m c.args.object (Library (ran.Throws c.in-Throws.exception)) (told_by p m told) (waits p m k before.frames) (state before c.args.heap.now outside) here
    (λ go exits. ap (λ (t : Telling). telling_ways m t go exits here) (sym (c.in-Library.is ∙ ap Library c.in-Throws.is))
    ∙ c.in_ok-own.ensures.goes m go exits outside (own_of made.env)
    ∙ ap (λ (e : Env). to_string p m c.args.object go exits (state_of before.units before.begun c.args.heap.now outside (own_of e))) c.in_ok-own.ensures.env)

pub returns-in-Spent-clause-goes : goal.returns-in-Spent-clause-goes
unfolding bind spent
returns-in-Spent-clause-goes c = λ m k outside.
    let p = program_view c.args.program.now in
    let before = c.args.context.now in
    let made = c.tell.new.context in
    let here = state made c.tell.new.heap outside in
    let told : Told = Right c.args.front c.args.sum in
    told_on p m c.args.object (Library ran.Spent) (told_by p m told) (waits p m k before.frames) (state before c.args.heap.now outside) here
    (λ go exits. ap (λ (t : Telling). telling_ways m t go exits here) (sym (c.in-Library.is ∙ ap Library c.in-Spent.is))
    ∙ c.in_ok-own.ensures.goes m go exits outside (own_of made.env)
    ∙ ap (λ (e : Env). to_string p m c.args.object go exits (state_of before.units before.begun c.args.heap.now outside (own_of e))) c.in_ok-own.ensures.env)

pub returns-in-Wrong-clause-goes : goal.returns-in-Wrong-clause-goes
unfolding bind wrong
returns-in-Wrong-clause-goes c = λ m k outside.
    let p = program_view c.args.program.now in
    let before = c.args.context.now in
    let made = c.tell.new.context in
    let here = state made c.tell.new.heap outside in
    let told : Told = Right c.args.front c.args.sum in
    told_on p m c.args.object (Library ran.Wrong) (told_by p m told) (waits p m k before.frames) (state before c.args.heap.now outside) here
    (λ go exits. ap (λ (t : Telling). telling_ways m t go exits here) (sym (c.in-Library.is ∙ ap Library c.in-Wrong.is))
    ∙ c.in_ok-own.ensures.goes m go exits outside (own_of made.env)
    ∙ ap (λ (e : Env). to_string p m c.args.object go exits (state_of before.units before.begun c.args.heap.now outside (own_of e))) c.in_ok-own.ensures.env)
