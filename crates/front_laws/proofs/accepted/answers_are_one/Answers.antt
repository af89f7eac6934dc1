use Rattle.front_laws.proofs.Answers.{answers_one}
use Rattle.front_laws.proofs.accepted.answers_are_one.Goals as goal

pub returns : goal.returns
returns c = answers_one c.data_answers_are_one.ensures c.tokens_are_determined.ensures.one_list c.the_same_is_judged.ensures c.answers_are_one.ensures
    c.tokens_determine_specifications.ensures
