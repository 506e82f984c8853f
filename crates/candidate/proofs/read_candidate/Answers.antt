-- Each fact has its byte.
use Rattle.candidate.proofs.ReadLaws.{fact_in, in_front}
use Rattle.candidate.proofs.read_candidate.Goals as goal

pub bounds-candidate-f : goal.bounds-candidate-f
bounds-candidate-f c =
    fact_in c.args.n c.args.candidate.now c.requires.candidate_len c.loop-f.f (in_front c.args.n _ c.loop-f-test.true)
