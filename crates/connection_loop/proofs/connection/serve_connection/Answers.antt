use Rattle.std.proofs.Common.{◌+◌, refl, ◌∙◌, arith}
use Rattle.connection_loop.proofs.Turning.{calls_more, clock_most, clock_twice, tells_before, tells_later, turned_first, turned_more}
use Rattle.connection_loop.proofs.connection.serve_connection.Goals as goal

pub loop-init : goal.loop-init
loop-init g c = turned_first _ _ _ _ _ _ _ _ _ _ _ _ c.requires.ready c.requires.none c.requires.turns

pub take_turn-requires-clause-ready : goal.take_turn-requires-clause-ready
take_turn-requires-clause-ready g c = c.loop.invariant.is_ready

pub take_turn-requires-clause-few : goal.take_turn-requires-clause-few
take_turn-requires-clause-few g c = c.loop.invariant.few

pub take_turn-requires-clause-room : goal.take_turn-requires-clause-room
take_turn-requires-clause-room g c =
    let so_far = c.loop.invariant in
    let few = so_far.few in
    let answers = so_far.answers in
    omega (arith, few, answers, c.requires.room)

pub take_turn-requires-clause-device : goal.take_turn-requires-clause-device
take_turn-requires-clause-device g c =
    let so_far = c.loop.invariant in
    let least = so_far.size_is in
    let same = so_far.calls.same.size in
    omega (arith, least, same, c.requires.device)

pub take_turn-requires-clause-under_way : goal.take_turn-requires-clause-under_way
take_turn-requires-clause-under_way g c = c.loop.invariant.calls.under_way ∙ c.requires.under_way

pub returns-in-Some-clause-calls : goal.returns-in-Some-clause-calls
returns-in-Some-clause-calls g c = calls_more _ _ _ _ c.loop.invariant.calls c.in-Some.ensures.calls

pub returns-in-Some-clause-size : goal.returns-in-Some-clause-size
returns-in-Some-clause-size g c =
    let so_far = c.loop.invariant.size_is in omega (arith, so_far, c.in-Some.ensures.size)

pub returns-in-Some-clause-setting : goal.returns-in-Some-clause-setting
returns-in-Some-clause-setting g c = c.in-Some.ensures.setting ∙ c.loop.invariant.setting_is

pub returns-in-Some-clause-clock : goal.returns-in-Some-clause-clock
returns-in-Some-clause-clock g c =
    let few = c.loop.invariant.few in
    let so_far = g.V.Service.taken c.loop.service in
    clock_most (so_far + 1) 1000000 _ _ _ _ (omega (arith, few)) (clock_twice so_far 1 _ _ _ _ _ _ c.loop.invariant.clock c.in-Some.ensures.clock)

pub returns-in-Some-clause-answers : goal.returns-in-Some-clause-answers
returns-in-Some-clause-answers g c =
    let so_far = c.loop.invariant in
    let few = so_far.few in
    let answers = so_far.answers in
    omega (arith, few, answers, c.in-Some.ensures.counted_last)

-- The last turn ended what the turns before it had reached.
pub returns-in-Some-clause-served : goal.returns-in-Some-clause-served
returns-in-Some-clause-served g c = λ all b finished s kept going.
    let so_far = c.loop.invariant in
    let before =
    so_far.reached (tells_before _ _ _ _ _ _ c.in-Some.ensures.clock all) b finished
    s kept going in
    (rw so_far.setting_is at c.in-Some.ensures.goes) (tells_later _ _ _ so_far.calls.same all) b finished before.steps before.state before.kept before.going

pub loop-preserved : goal.loop-preserved
loop-preserved g c =
    let turn = c.in_default.ensures in
    turned_more g.V.Service.machine (g.V.Service.setting c.args.service.now) (g.V.Service.setting c.loop.service) _ _ _
    (g.X.Disk.device c.args.site.now) (g.X.Disk.device c.loop.site) (g.X.Disk.device c.take_turn.new.site)
    _ _ _ _ _ _ _ _ _ _ _ _ _ _ _ _ _ _ _ _ _ _ _ c.loop.counter
    c.loop.invariant turn.calls turn.setting (turn.ready refl) turn.size turn.clock (turn.few refl) (turn.taken refl) (turn.counted refl) (turn.turns refl)
    (turn.most refl) turn.goes

-- More turns than a connection has.
pub unreachable-requires : goal.unreachable-requires
unreachable-requires g c =
    let so_far = c.loop.invariant in
    let moved = so_far.moved in
    let most = so_far.most in
    absurd (omega (arith, moved, most, c.loop-test.false))
