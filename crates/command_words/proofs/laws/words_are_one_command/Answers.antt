use Rattle.command_words.proofs.Ones.{one_command}
use Rattle.command_words.proofs.laws.words_are_one_command.Goals as goal

pub returns : goal.returns
returns c = one_command
