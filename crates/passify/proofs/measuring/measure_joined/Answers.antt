use Rattle.std.proofs.Common.{ap, arith}
use Rattle.passive.specs.Passive.{merge}
use Rattle.passify.specs.declared.maps.Exits.{Exits}
use Rattle.passify.specs.Measuring.{leaving}
use Rattle.passify.proofs.Sizes.{merge_up}
use Rattle.passify.proofs.measuring.measure_joined.Goals as goal

pub merge-n-requires : goal.merge-n-requires
merge-n-requires c =
    let out = leaving c.args.joint c.args.left.now.exits in
    let n = merge out.normal c.args.right.now.exits.normal c.args.right.now.next in
    omega (
      arith,
      c.requires.few_names,
      merge_up out.raised c.args.right.now.exits.raised n.next,
      ap (λ (e : Exits). (merge e.normal c.args.right.now.exits.normal c.args.right.now.next).next) c.left_exits-exits.ensures,
    )
