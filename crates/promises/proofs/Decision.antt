-- The promises of the decision, kept.
use mathlib.Core.Path.{refl}
use Rattle.decide.proofs.Answers.{answers}
use Rattle.decide.proofs.Determined.{one_answer}
use Rattle.promises.specs.Decision.{DecisionPromises}

pub decision_promises : DecisionPromises
decision_promises =
    record {
      answers = answers;
      one_answer = one_answer;
      silent = refl;
      routine = refl;
      scheme = refl;
      refused = λ code. refl;
    }
