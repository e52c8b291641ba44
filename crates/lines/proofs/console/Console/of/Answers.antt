use Rattle.lines.proofs.console.Console.of.Goals as goal

pub returns : goal.returns
returns c = (c.args.addresses, c.args.rests, c.requires, c.new.ensures)
