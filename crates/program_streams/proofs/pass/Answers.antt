use Rattle.std.proofs.Common.{rules, refl}
use Rattle.std.proofs.lemmas.Result.{on_ok_weaker}
use Rattle.program_streams.proofs.Passing.{passed-turn, passed-whole, passed-too-many}
use Rattle.program_streams.proofs.pass.Goals as goal

pub loop-turn-preserved : goal.loop-turn-preserved
loop-turn-preserved g c =
    let read = c.in_ok-read in (
      search rules,
      passed-turn c.loop-turn.invariant.1 _ _ _ read.read c.read_in.new.chunk c.if-read-eq0.false
          read.ensures.bound.0 read.ensures.bytes.0 c.in_ok-pass_chunk.ensures,
    )

pub returns-then-read-eq0 : goal.returns-then-read-eq0
returns-then-read-eq0 g c =
    let bytes = rw c.if-read-eq0.true at c.in_ok-read.ensures.bytes in
    on_ok_weaker c.pass_rest.result (passed-whole c.loop-turn.invariant.1 _ _ _ bytes.0 (bytes.1 refl (search rules))) c.pass_rest.ensures

pub returns : goal.returns
returns g c = λ starts. passed-too-many c.loop-turn.invariant.1 _ (search rules)
