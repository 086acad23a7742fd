use Rattle.plan_answers.proofs.validity.enough_for.Goals as goal

pub returns-in-Ok : goal.returns-in-Ok
returns-in-Ok c batch schedule says =
    let texts = c.args.texts.now in
    let most = rw c.in-Ok.ensures at c.most_uses.ensures in
    record {
      transfers = texts.batch;
      settings = texts.schedule;
      link = most.0;
      read = record { certificate = texts.certificate; texts = says; valid = c.requires };
      busiest = most.1;
      uses = most.2;
    }
