-- the name of an operation

pub data OperationKind : Type 0 where
  Module : OperationKind
  Go : OperationKind
  Require : OperationKind
  DropRequire : OperationKind
  Exclude : OperationKind
  DropExclude : OperationKind
  Replace : OperationKind
  DropReplace : OperationKind
  Retract : OperationKind
  DropRetract : OperationKind
