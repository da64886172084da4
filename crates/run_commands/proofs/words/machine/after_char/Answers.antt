use Rattle.run_commands.proofs.words.machine.after_char.Goals as goal

pub returns-in-Comment : goal.returns-in-Comment
returns-in-Comment c =
    rw c.in-Comment.is (c.after_comment.ensures c.args.words.now c.args.place (rw c.in-Comment.is at c.requires))
