use Rattle.journals.proofs.Words.{worker_is, last_worker}
use Rattle.journals.proofs.reading.who_of.Goals as goal

pub returns-in-w0-clause-found : goal.returns-in-w0-clause-found
returns-in-w0-clause-found c = λ who fits is. worker_is 0 c.args.text.now who c.in-w0.is fits is

pub returns-in-w1-clause-found : goal.returns-in-w1-clause-found
returns-in-w1-clause-found c = λ who fits is. worker_is 1 c.args.text.now who c.in-w1.is fits is

pub returns-in-w2-clause-found : goal.returns-in-w2-clause-found
returns-in-w2-clause-found c = λ who fits is. worker_is 2 c.args.text.now who c.in-w2.is fits is

pub returns-in-w3-clause-found : goal.returns-in-w3-clause-found
returns-in-w3-clause-found c = λ who fits is. worker_is 3 c.args.text.now who c.in-w3.is fits is

pub returns-in-w4-clause-found : goal.returns-in-w4-clause-found
returns-in-w4-clause-found c = λ who fits is. worker_is 4 c.args.text.now who c.in-w4.is fits is

pub returns-in-w5-clause-found : goal.returns-in-w5-clause-found
returns-in-w5-clause-found c = λ who fits is. worker_is 5 c.args.text.now who c.in-w5.is fits is

pub returns-in-w6-clause-found : goal.returns-in-w6-clause-found
returns-in-w6-clause-found c = λ who fits is. worker_is 6 c.args.text.now who c.in-w6.is fits is

pub returns-in_default-clause-found : goal.returns-in_default-clause-found
returns-in_default-clause-found c = λ who fits is.
    last_worker c.args.text.now who fits is c.in_default.not-c c.in_default.not-r c.in_default.not-w0 c.in_default.not-w1 c.in_default.not-w2 c.in_default.not-w3 c.in_default.not-w4
    c.in_default.not-w5 c.in_default.not-w6
