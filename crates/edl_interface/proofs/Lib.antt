mod BytesLaws
