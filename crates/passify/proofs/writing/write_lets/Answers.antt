use Rattle.std.proofs.Common.{rules, ◌+◌, sym, subst, arith}
use Rattle.std.proofs.lemmas.List.{length_push}
use Rattle.std.proofs.lemmas.Slice.Zip.{zip_turn, zip_end}
use Rattle.kinds.specs.declared.numbered.Name.{Name}
use Rattle.passive.specs.Passive.{name}
use Rattle.passify.specs.Pieces.{next_let, Wrote, Room}
use Rattle.passify.proofs.MergeTurns.{apart_names, same_names, not_alike, alike}
use Rattle.passify.proofs.LetTurns.{Sofar, begun, same, names_room, let_room, apart, written, named}
use Rattle.passify.proofs.writing.write_lets.Goals as goal

pub loop-old-init : goal.loop-old-init
loop-old-init c = begun _ _ _ _ _ _

pub overflow_cast-k : goal.overflow_cast-k
overflow_cast-k c =
    let z = zip_turn c.args.a.now c.args.b.now _ c.into_iter-old-iterator.result c.loop-old.old-iterator c.next.new.self _ (search rules) (search rules) c.loop-old.yielded_by _ c.in-Some.is c.next.ensures.steps in
    let e = apart_names _ _ _ _ (not_alike _ c.if-ne.ensures) (z.2 (name 0)) (z.3 (name 0)) in
    omega (arith, names_room _ _ _ _ _ _ _ _ _ _ _ z.0 z.1 c.loop-old.invariant e, c.requires.names)

pub write_next_let-at-requires-clause-room : goal.write_next_let-at-requires-clause-room
write_next_let-at-requires-clause-room c =
    let z = zip_turn c.args.a.now c.args.b.now _ c.into_iter-old-iterator.result c.loop-old.old-iterator c.next.new.self _ (search rules) (search rules) c.loop-old.yielded_by _ c.in-Some.is c.next.ensures.steps in
    let e = apart_names _ _ _ _ (not_alike _ c.if-ne.ensures) (z.2 (name 0)) (z.3 (name 0)) in
    subst (λ (x : Name). Room (next_let c.args.start (record { new = name c.loop-old.k; old = x }) c.loop-old.at) c.loop-old.at c.loop-old.rows c.loop-old.terms)
    (sym (z.2 (name 0))) (let_room _ _ _ _ _ _ _ _ _ _ _ z.0 z.1 c.loop-old.invariant e c.requires.room)

pub overflow_add-k : goal.overflow_add-k
overflow_add-k c =
    let z = zip_turn c.args.a.now c.args.b.now _ c.into_iter-old-iterator.result c.loop-old.old-iterator c.next.new.self _ (search rules) (search rules) c.loop-old.yielded_by _ c.in-Some.is c.next.ensures.steps in
    let e = apart_names _ _ _ _ (not_alike _ c.if-ne.ensures) (z.2 (name 0)) (z.3 (name 0)) in
    omega (arith, names_room _ _ _ _ _ _ _ _ _ _ _ z.0 z.1 c.loop-old.invariant e, c.requires.names)

pub loop-old-preserved-then-ne : goal.loop-old-preserved-then-ne
loop-old-preserved-then-ne c =
    let z = zip_turn c.args.a.now c.args.b.now _ c.into_iter-old-iterator.result c.loop-old.old-iterator c.next.new.self _ (search rules) (search rules) c.loop-old.yielded_by _ c.in-Some.is c.next.ensures.steps in
    let e = apart_names _ _ _ _ (not_alike _ c.if-ne.ensures) (z.2 (name 0)) (z.3 (name 0)) in
    let w =
    subst (λ (x : Name). Wrote (next_let c.args.start (record { new = name c.loop-old.k; old = x }) c.loop-old.at) c.loop-old.at
    c.loop-old.rows c.write_next_let-at.new.rows c.loop-old.terms c.write_next_let-at.new.terms c.write_next_let-at.result)
    (z.2 (name 0)) c.write_next_let-at.ensures in
    subst (λ i. Sofar c.args.a.now c.args.b.now c.args.next c.args.start c.args.rows.now c.args.terms.now (c.loop-old.k + 1) i
    c.write_next_let-at.result c.write_next_let-at.new.rows c.write_next_let-at.new.terms)
    (sym (length_push c.loop-old.yielded _))
    (apart _ _ _ _ _ _ _ _ _ _ _ z.0 z.1 c.loop-old.invariant e c.write_next_let-at.result _ _
    (omega (arith, c.requires.room.rows_room)) (omega (arith, c.requires.room.terms_room)) w)

pub loop-old-preserved : goal.loop-old-preserved
loop-old-preserved c =
    let z = zip_turn c.args.a.now c.args.b.now _ c.into_iter-old-iterator.result c.loop-old.old-iterator c.next.new.self _ (search rules) (search rules) c.loop-old.yielded_by _ c.in-Some.is c.next.ensures.steps in
    let e = same_names _ _ _ _ (alike _ c.if-ne.ensures) (z.2 (name 0)) (z.3 (name 0)) in
    subst (λ i. Sofar c.args.a.now c.args.b.now c.args.next c.args.start c.args.rows.now c.args.terms.now c.loop-old.k i c.loop-old.at c.loop-old.rows c.loop-old.terms)
    (sym (length_push c.loop-old.yielded _)) (same _ _ _ _ _ _ _ _ _ _ _ z.0 z.1 c.loop-old.invariant e)

pub returns-clause-wrote : goal.returns-clause-wrote
returns-clause-wrote c =
    let e = zip_end c.args.a.now c.args.b.now _ c.into_iter-old-iterator.result c.loop-old.old-iterator c.next.new.self _ (search rules) (search rules) c.loop-old.yielded_by c.in-None.is c.next.ensures.steps in
    written _ _ _ _ _ _ _ _ _ _ _ e c.loop-old.invariant

pub returns-clause-next : goal.returns-clause-next
returns-clause-next c =
    let e = zip_end c.args.a.now c.args.b.now _ c.into_iter-old-iterator.result c.loop-old.old-iterator c.next.new.self _ (search rules) (search rules) c.loop-old.yielded_by c.in-None.is c.next.ensures.steps in
    named _ _ _ _ _ _ _ _ _ _ _ e c.loop-old.invariant
