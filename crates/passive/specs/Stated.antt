-- How each joint is passified, as the rules state it. `joined` of Passive.antt has one clause for all three.
use Rattle.std.specs.Prelude.{◌≡◌}
use Rattle.routine.specs.declared.rows.Joint.TheVariants.{Sequence, Choice, Catch}
use Rattle.passive.specs.Passive.{p_join, merge, tail, guard, Passified, joined}

-- a sequence merges the raised maps, guards both parts and has the right part's normal map
abbrev pub SequenceRule : Passified → Passified → Type 0
SequenceRule a b =
    let x = merge a.raised b.raised b.next in
    joined Sequence a b
    ≡ record {
      code = p_join Sequence (guard a.code x.left) (guard b.code x.right);
      normal = b.normal;
      raised = x.names;
      next = x.next;
    }

-- a catch merges the normal maps, tails both parts and has the right part's raised map
abbrev pub CatchRule : Passified → Passified → Type 0
CatchRule a b =
    let n = merge a.normal b.normal b.next in
    joined Catch a b
    ≡ record {
      code = p_join Catch (tail a.code n.left) (tail b.code n.right);
      normal = n.names;
      raised = b.raised;
      next = n.next;
    }

-- a choice merges the normal, then the raised maps; each part is a guard of a tail
abbrev pub ChoiceRule : Passified → Passified → Type 0
ChoiceRule a b =
    let n = merge a.normal b.normal b.next in
    let x = merge a.raised b.raised n.next in
    joined Choice a b
    ≡ record {
      code = p_join Choice (guard (tail a.code n.left) x.left) (guard (tail b.code n.right) x.right);
      normal = n.names;
      raised = x.names;
      next = x.next;
    }

abbrev pub JointsAsStated : Type 0
JointsAsStated = (a b : Passified) → SequenceRule a b × CatchRule a b × ChoiceRule a b
