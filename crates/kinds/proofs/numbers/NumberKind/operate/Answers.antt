use Rattle.std.proofs.Common.{◌≡◌, sym, ap, ◌∙◌, w32, SFits, rules}
use Rattle.std.proofs.lemmas.Int.{wrapping_add_is, wrapping_sub_is, wrapping_mul_is}
use Rattle.kinds.specs.Numbers.{number, operated}
use Rattle.kinds.proofs.numbers.NumberKind.operate.Goals as goal

pub returns-in-0 : goal.returns-in-0
returns-in-0 c =
    let f : SFits w32 c.args.p.0 = search rules in
    let h : SFits w32 c.args.q.0 = search rules in
    let k : c.args.op ≡ 0 = search rules in
    ap number (wrapping_add_is w32 _ _ f h) ∙ ap (λ k. operated k c.args.p c.args.q) (sym k)

pub returns-in-1 : goal.returns-in-1
returns-in-1 c =
    let f : SFits w32 c.args.p.0 = search rules in
    let h : SFits w32 c.args.q.0 = search rules in
    let k : c.args.op ≡ 1 = search rules in
    ap number (wrapping_sub_is w32 _ _ f h) ∙ ap (λ k. operated k c.args.p c.args.q) (sym k)

pub returns-in-2 : goal.returns-in-2
returns-in-2 c =
    let f : SFits w32 c.args.p.0 = search rules in
    let h : SFits w32 c.args.q.0 = search rules in
    let k : c.args.op ≡ 2 = search rules in
    ap number (wrapping_mul_is w32 _ _ f h) ∙ ap (λ k. operated k c.args.p c.args.q) (sym k)
